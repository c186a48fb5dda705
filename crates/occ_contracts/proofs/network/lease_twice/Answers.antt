use Rattle.occ_contracts.proofs.Networks.{same_leased, same_left}
use Rattle.occ_contracts.proofs.network.lease_twice.Goals as goal

pub returns-clause-leased : goal.returns-clause-leased
returns-clause-leased c =
    let n = c.replayed.ensures in
    same_leased c.args.one.now _ n.net n.state c.requires _ _ _ _ c.lease.ensures.leased c.lease-2.ensures.leased

pub returns-clause-left : goal.returns-clause-left
returns-clause-left c =
    let n = c.replayed.ensures in
    same_left c.args.one.now _ n.net n.state c.requires _ _ _ _ c.lease.ensures.leased c.lease-2.ensures.leased
