use Rattle.std.proofs.Common.{◌≡◌, ◌++◌, length, map}
use Rattle.occ_text.specs.Words.{logical_lines}
use Rattle.occ_explaining.specs.Reach.{among, heads_beyond, unchecked_head}
use Rattle.occ_explaining.proofs.unchecked.heads_beyond.Given as goal

abbrev pub invariant-loop-lines : goal.invariant-loop-lines
invariant-loop-lines l = map unchecked_head l.found.items ++ heads_beyond (among l.reached.keys) (logical_lines l.lines) ≡ heads_beyond (among l.reached.keys) (logical_lines l.initial.lines)

abbrev pub decreases-loop-lines : goal.decreases-loop-lines
decreases-loop-lines l = length l.lines
