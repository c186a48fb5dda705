use Rattle.occ_net_tables.proofs.Passing.{elsewhere_more}
use Rattle.occ_net_tables.proofs.trace_entries.place_on.Goals as goal

pub loop-place-preserved : goal.loop-place-preserved
loop-place-preserved c = elsewhere_more c.args.chan c.args.heads.now c.loop-place.place _ c.loop-place-test.true c.if-head-chan.false c.loop-place.invariant
