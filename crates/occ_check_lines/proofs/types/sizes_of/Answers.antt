use Rattle.std.proofs.Common.{map}
use Rattle.occ_tree_grammar.specs.Expressions.Trees.{expression_of}
use Rattle.occ_check_lines.specs.View.{names_in}
use Rattle.occ_check_lines.proofs.SizeLists.{sizes_positive}
use Rattle.occ_check_lines.proofs.types.sizes_of.Goals as goal

pub not_too_large-requires : goal.not_too_large-requires
not_too_large-requires c = sizes_positive (names_in c.args.context.scope) c.args.context.line (map expression_of c.args.sizes.now) c.in_ok-sizes.sizes c.in_ok-sizes.ensures
