use Rattle.occ_report.proofs.Turns.{three_more}
use Rattle.occ_report.proofs.stops.write_tail.Goals as goal

pub returns : goal.returns
returns c = three_more _ _ _ _ _ _ _ c.in_ok-write_stopped.ensures c.in_ok-write_all_made.ensures c.in_ok-push.ensures.items
