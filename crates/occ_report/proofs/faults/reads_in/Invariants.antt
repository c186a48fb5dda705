use Rattle.std.proofs.Common.{◌≡◌, [], length}
use Rattle.occ_report.specs.Faults.{reads_in}
use Rattle.occ_report.proofs.faults.reads_in.Given as goal

abbrev pub invariant-loop-instruction : goal.invariant-loop-instruction
invariant-loop-instruction l = reads_in l.rest l.read.items ≡ reads_in l.fn.code []

abbrev pub decreases-loop-instruction : goal.decreases-loop-instruction
decreases-loop-instruction l = length l.rest
