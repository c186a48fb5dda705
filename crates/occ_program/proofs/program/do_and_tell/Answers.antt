use Rattle.occ_program.proofs.Statuses.{failed_status}
use Rattle.occ_program.proofs.program.do_and_tell.Goals as goal

pub returns-in-Err-clause-came : goal.returns-in-Err-clause-came
returns-in-Err-clause-came g c = failed_status c.in-Err.failure c.report-status.result c.report-status.ensures
