use Rattle.std.proofs.Common.{◌≡◌, length}
use Rattle.occ_report.specs.Places.{first_of}
use Rattle.occ_report.proofs.stop.first_of.Given as goal

abbrev pub invariant-loop-stop : goal.invariant-loop-stop
invariant-loop-stop l = first_of l.wait l.place l.rest ≡ first_of l.wait l.place l.fn.stops

abbrev pub decreases-loop-stop : goal.decreases-loop-stop
decreases-loop-stop l = length l.rest
