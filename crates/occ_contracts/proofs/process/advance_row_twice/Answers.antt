use Rattle.std.proofs.Common.{sym}
use Rattle.occ_contracts.proofs.Turning.{one_row}
use Rattle.occ_contracts.proofs.process.advance_row_twice.Goals as goal

pub returns-clause-one_task : goal.returns-clause-one_task
returns-clause-one_task c = one_row _ _ _ _ _ _ _ (sym c.requires.same) c.advance_row.ensures.turns c.advance_row-2.ensures.turns
