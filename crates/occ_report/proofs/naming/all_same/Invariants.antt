use Rattle.std.proofs.Common.{◌≡◌, length}
use Rattle.occ_text.specs.Words.{words}
use Rattle.occ_report.specs.Naming.{all_same, means}
use Rattle.occ_report.proofs.naming.all_same.Given as goal

abbrev pub invariant-loop-rest : goal.invariant-loop-rest
invariant-loop-rest l = all_same (means l.naming) l.own l.name (words l.rest) ≡ all_same (means l.naming) l.own l.name (words l.fn.tokens)

abbrev pub decreases-loop-rest : goal.decreases-loop-rest
decreases-loop-rest l = length l.rest
