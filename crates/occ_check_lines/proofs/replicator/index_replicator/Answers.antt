use Rattle.std.proofs.Common.{arith}
use Rattle.std.proofs.lemmas.Grind.{common_steps}
use Rattle.occ_check_lines.proofs.replicator.index_replicator.Goals as goal

pub returns-in_err-base : goal.returns-in_err-base
returns-in_err-base c = grind (arith, common_steps)

pub returns-in_err-count : goal.returns-in_err-count
returns-in_err-count c = grind (arith, common_steps)

pub returns-in_err-index : goal.returns-in_err-index
returns-in_err-index c = grind (arith, common_steps)

pub returns-in_err-count_replicator : goal.returns-in_err-count_replicator
returns-in_err-count_replicator c = grind (arith, common_steps)

pub returns-in_err-stretch : goal.returns-in_err-stretch
returns-in_err-stretch c = grind (arith, common_steps)

pub returns-in_err-name : goal.returns-in_err-name
returns-in_err-name c = grind (arith, common_steps)

pub returns : goal.returns
returns c = grind (arith, common_steps)
