use Rattle.std.proofs.Common.{arith}
use Rattle.std.proofs.lemmas.Grind.{common_steps}
use Rattle.occ_text.proofs.read.join.Goals as goal

pub returns-in_ok-append-in-Some-clause-value : goal.returns-in_ok-append-in-Some-clause-value
returns-in_ok-append-in-Some-clause-value c = grind (arith, common_steps)
