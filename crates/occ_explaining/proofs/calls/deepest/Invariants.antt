use Rattle.std.proofs.Common.{◌≡◌, length, max}
use Rattle.occ_text.specs.Words.{logical_lines}
use Rattle.occ_explaining.specs.Calls.{deepest}
use Rattle.occ_explaining.proofs.calls.deepest.Given as goal

abbrev pub invariant-loop-lines : goal.invariant-loop-lines
invariant-loop-lines l = max l.most (deepest (logical_lines l.lines)) ≡ deepest (logical_lines l.initial.lines)

abbrev pub decreases-loop-lines : goal.decreases-loop-lines
decreases-loop-lines l = length l.lines
