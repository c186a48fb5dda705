use Rattle.std.proofs.Common.{arith}
use Rattle.std.proofs.lemmas.Grind.{common_steps}
use Rattle.occ_check.proofs.variants.variants_taken.Goals as goal

pub returns-in_err-protocol-clause-taken : goal.returns-in_err-protocol-clause-taken
returns-in_err-protocol-clause-taken c = grind (arith, common_steps)

pub returns-in_err-protocol-clause-within : goal.returns-in_err-protocol-clause-within
returns-in_err-protocol-clause-within c = grind (arith, common_steps)

pub returns-in_err-protocol-2-clause-taken : goal.returns-in_err-protocol-2-clause-taken
returns-in_err-protocol-2-clause-taken c = grind (arith, common_steps)

pub returns-in_err-protocol-2-clause-within : goal.returns-in_err-protocol-2-clause-within
returns-in_err-protocol-2-clause-within c = grind (arith, common_steps)

pub returns-in_err-node-clause-taken : goal.returns-in_err-node-clause-taken
returns-in_err-node-clause-taken c = grind (arith, common_steps)

pub returns-in_err-node-clause-within : goal.returns-in_err-node-clause-within
returns-in_err-node-clause-within c = grind (arith, common_steps)

pub returns-in_err-count_place-clause-taken : goal.returns-in_err-count_place-clause-taken
returns-in_err-count_place-clause-taken c = grind (arith, common_steps)

pub returns-in_err-count_place-clause-within : goal.returns-in_err-count_place-clause-within
returns-in_err-count_place-clause-within c = grind (arith, common_steps)

pub returns-in_err-protocol-3-clause-taken : goal.returns-in_err-protocol-3-clause-taken
returns-in_err-protocol-3-clause-taken c = grind (arith, common_steps)

pub returns-in_err-protocol-3-clause-within : goal.returns-in_err-protocol-3-clause-within
returns-in_err-protocol-3-clause-within c = grind (arith, common_steps)

pub returns-clause-taken : goal.returns-clause-taken
returns-clause-taken c = grind (arith, common_steps)

pub returns-clause-within : goal.returns-clause-within
returns-clause-within c = grind (arith, common_steps)
