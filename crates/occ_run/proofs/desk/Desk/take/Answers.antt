use Rattle.occ_run.proofs.Telling.{is_next}
use Rattle.occ_run.proofs.desk.Desk.take.Goals as goal

pub all_of-requires : goal.all_of-requires
all_of-requires g c = is_next _ _ g.U.OneRun.keyboard g.U.OneRun.limit _ _ _ c.self.invariant.2 c.replayed.ensures _ c.trace-trace.ensures
