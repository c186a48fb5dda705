use Rattle.std.proofs.Common.{◌≡◌, length}
use Rattle.occ_report.specs.Places.{arm_opened}
use Rattle.occ_report.proofs.stop.arm_opened.Given as goal

abbrev pub invariant-loop-stop : goal.invariant-loop-stop
invariant-loop-stop l = arm_opened l.rest l.alt l.number ≡ arm_opened l.fn.stops l.alt l.number

abbrev pub decreases-loop-stop : goal.decreases-loop-stop
decreases-loop-stop l = length l.rest
