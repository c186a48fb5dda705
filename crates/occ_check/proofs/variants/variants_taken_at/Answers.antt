use Rattle.std.proofs.Common.{subst}
use Rattle.occ_tree_grammar.specs.Lines.Views.{var_of}
use Rattle.occ_term.specs.View.{place_of}
use Rattle.occ_check.specs.Variants.{variants_taken}
use Rattle.occ_check_lines.specs.View.{Unfolds, numbers_of}
use Rattle.occ_check.proofs.variants.variants_taken_at.Goals as goal

pub returns-clause-taken : goal.returns-clause-taken
returns-clause-taken c =
    subst (λ ns. Unfolds (λ x. (x.0, place_of x.1)) c.variants_taken.result c.variants_taken.new.numbers
    (variants_taken ns c.args.here.line c.args.here.depth (var_of c.args.channel.now) (numbers_of c.args.unfolder.now.numbers))) c.names_at-scope.ensures c.variants_taken.ensures.taken
