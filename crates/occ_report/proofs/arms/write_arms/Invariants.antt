use Rattle.std.proofs.Common.{◌≡◌, ◌++◌, length}
use Rattle.occ_shown.specs.Answers.{names_of}
use Rattle.occ_report.specs.Reports.{arms_text}
use Rattle.occ_report.proofs.arms.write_arms.Given as goal

abbrev pub invariant-loop-arm : goal.invariant-loop-arm
invariant-loop-arm l =
    l.out.items ++ arms_text (names_of l.channels) l.writers l.spot.source.now l.spot.stops.now l.spot.stop l.rest
    ≡ l.fn.out.items ++ arms_text (names_of l.channels) l.writers l.spot.source.now l.spot.stops.now l.spot.stop l.fn.arms

abbrev pub decreases-loop-arm : goal.decreases-loop-arm
decreases-loop-arm l = length l.rest
