use Rattle.std.proofs.Common.{◌∙◌, sym}
use Rattle.occ_net_tables.specs.Choosing.{offered_by}
use Rattle.occ_net_tables.proofs.Arms.{found_at}
use Rattle.occ_net_tables.proofs.choosing.ready_place.Goals as goal

pub returns-then-left-eq0-clause-arm : goal.returns-then-left-eq0-clause-arm
returns-then-left-eq0-clause-arm c =
    found_at (offered_by c.args.named c.args.offering.now) c.args.arms.now c.loop-place.place c.loop-place.left c.index-arms-place.result _ c.loop-place-test.true c.index-arms-place.is (sym c.is_ready.ensures ∙ c.if-is_ready.true) c.if-left-eq0.true c.loop-place.invariant
