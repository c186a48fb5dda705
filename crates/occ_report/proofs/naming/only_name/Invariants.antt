use Rattle.std.proofs.Common.{◌≡◌, length}
use Rattle.occ_text.specs.Words.{words}
use Rattle.occ_report.specs.Naming.{means, only_name}
use Rattle.occ_report.proofs.naming.only_name.Given as goal

abbrev pub invariant-loop-rest : goal.invariant-loop-rest
invariant-loop-rest l = only_name (means l.naming) l.own (words l.rest) ≡ only_name (means l.naming) l.own (words l.fn.tokens)

abbrev pub decreases-loop-rest : goal.decreases-loop-rest
decreases-loop-rest l = length l.rest
