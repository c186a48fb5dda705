use Rattle.std.proofs.Common.{arith}
use Rattle.std.proofs.lemmas.Grind.{common_steps}
use Rattle.occ_check.proofs.guards.count_guard.Goals as goal

pub returns-in_err-node-clause-counts : goal.returns-in_err-node-clause-counts
returns-in_err-node-clause-counts c = grind (arith, common_steps)

pub returns-in_err-node-clause-within : goal.returns-in_err-node-clause-within
returns-in_err-node-clause-within c = grind (arith, common_steps)

pub returns-in_err-count_place-clause-counts : goal.returns-in_err-count_place-clause-counts
returns-in_err-count_place-clause-counts c = grind (arith, common_steps)

pub returns-in_err-count_place-clause-within : goal.returns-in_err-count_place-clause-within
returns-in_err-count_place-clause-within c = grind (arith, common_steps)

pub returns-clause-counts : goal.returns-clause-counts
returns-clause-counts c = grind (arith, common_steps)

pub returns-clause-within : goal.returns-clause-within
returns-clause-within c = grind (arith, common_steps)
