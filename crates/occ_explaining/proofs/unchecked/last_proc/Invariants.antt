use Rattle.std.proofs.Common.{◌≡◌, length}
use Rattle.occ_text.specs.Reading.{or_else}
use Rattle.occ_text.specs.Words.{logical_lines}
use Rattle.occ_explaining.specs.Calls.{named}
use Rattle.occ_explaining.specs.Reach.{last_proc}
use Rattle.occ_explaining.proofs.unchecked.last_proc.Given as goal

abbrev pub invariant-loop-lines : goal.invariant-loop-lines
invariant-loop-lines l = or_else (last_proc (logical_lines l.lines)) (named l.main) ≡ last_proc (logical_lines l.initial.lines)

abbrev pub decreases-loop-lines : goal.decreases-loop-lines
decreases-loop-lines l = length l.lines
