use Rattle.std.proofs.Common.{◌≡◌, map, take}
use Rattle.occ_check_lines.proofs.types.names_of_tags.Given as goal

abbrev pub invariant-loop-tag : goal.invariant-loop-tag
invariant-loop-tag l = l.names ≡ map (λ t. t.name) (take l.tag-index l.tags)
