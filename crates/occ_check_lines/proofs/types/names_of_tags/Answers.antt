use Rattle.std.proofs.Common.{◌∙◌}
use Rattle.occ_check_lines.proofs.SizeLists.{names_taken}
use Rattle.occ_check_lines.proofs.types.names_of_tags.Goals as goal

pub returns : goal.returns
returns c = c.loop-tag.invariant ∙ names_taken _ _ c.loop-tag-test.false
