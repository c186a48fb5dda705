use Rattle.std.proofs.Common.{◌≡◌}
use Rattle.occ_check_lines.proofs.Tagging.{Numbered}
use Rattle.occ_check_lines.proofs.item.tag_number.Given as goal

abbrev pub invariant-loop-tag : goal.invariant-loop-tag
invariant-loop-tag l = Numbered l.tags l.name l.tag-index l.number × (l.number ≡ l.tag-index)
