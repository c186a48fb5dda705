use Rattle.std.proofs.Common.{◌≡◌, length}
use Rattle.occ_text.specs.Words.{words}
use Rattle.occ_report.specs.Formals.{subscripts_text}
use Rattle.occ_report.proofs.formals.subscripts_text.Given as goal

abbrev pub invariant-loop-rest : goal.invariant-loop-rest
invariant-loop-rest l = subscripts_text l.text.items (words l.rest) ≡ subscripts_text l.name (words l.fn.tokens)

abbrev pub decreases-loop-rest : goal.decreases-loop-rest
decreases-loop-rest l = length l.rest
