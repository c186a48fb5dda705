use Rattle.std.proofs.Common.{option_map, subst}
use Rattle.occ_tree_grammar.specs.Expressions.Trees.{expression_of as tree_of}
use Rattle.occ_tree_grammar.specs.Lines.Views.{var_of}
use Rattle.occ_term.specs.View.{place_of, test_of as boolean_of}
use Rattle.occ_check.specs.Guards.{guarding_variants}
use Rattle.occ_check_lines.specs.View.{Unfolds, numbers_of}
use Rattle.occ_check.proofs.guards.guarding_variants_at.Goals as goal

pub returns-clause-guard : goal.returns-clause-guard
returns-clause-guard c =
    subst (λ ns. Unfolds (λ g. (boolean_of g.0, (g.1, place_of g.2))) c.guarding_variants.result c.guarding_variants.new.numbers
    (guarding_variants ns c.args.here.line c.args.here.depth (option_map tree_of c.args.guard.now.condition) (var_of c.args.guard.now.channel) (numbers_of c.args.unfolder.now.numbers))) c.names_at-scope.ensures c.guarding_variants.ensures.guard
