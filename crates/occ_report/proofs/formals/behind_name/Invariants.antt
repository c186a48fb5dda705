use Rattle.std.proofs.Common.{◌≡◌, length}
use Rattle.occ_report.specs.Formals.{behind_name}
use Rattle.occ_report.proofs.formals.behind_name.Given as goal

abbrev pub invariant-loop-text : goal.invariant-loop-text
invariant-loop-text l = behind_name l.text ≡ behind_name l.initial.text

abbrev pub decreases-loop-text : goal.decreases-loop-text
decreases-loop-text l = length l.text
