use Rattle.std.proofs.Common.{◌≡◌, length}
use Rattle.occ_report.specs.Written.{unspaced}
use Rattle.occ_report.proofs.source_lines.unspaced.Given as goal

abbrev pub invariant-loop-line : goal.invariant-loop-line
invariant-loop-line l = unspaced l.line ≡ unspaced l.initial.line

abbrev pub decreases-loop-line : goal.decreases-loop-line
decreases-loop-line l = length l.line
