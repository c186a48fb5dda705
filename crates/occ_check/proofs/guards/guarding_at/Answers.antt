use Rattle.std.proofs.Common.{option_map, subst}
use Rattle.occ_tree_grammar.specs.Expressions.Trees.{expression_of as tree_of}
use Rattle.occ_tree_grammar.specs.Lines.Views.{input_of}
use Rattle.occ_term.specs.View.{place_of, test_of as boolean_of}
use Rattle.occ_check_lines.specs.Action.{listed_of}
use Rattle.occ_check.specs.Guards.{guarding}
use Rattle.occ_check_lines.specs.View.{Unfolds, numbers_of}
use Rattle.occ_check.proofs.guards.guarding_at.Goals as goal

pub returns-clause-guard : goal.returns-clause-guard
returns-clause-guard c =
    subst (λ ns. Unfolds (λ g. (boolean_of g.test, (place_of g.channel, listed_of g.listed))) c.guarding.result c.guarding.new.numbers
    (guarding ns c.args.here.line c.args.here.depth (option_map tree_of c.args.test.now) (input_of c.args.input.now) (numbers_of c.args.unfolder.now.numbers))) c.names_at-scope.ensures c.guarding.ensures.guard
