use Rattle.occ_net.specs.Networks.{ready_task}
use Rattle.occ_contracts.proofs.Networks.{same_lent}
use Rattle.occ_contracts.proofs.network.ready_at_twice.Goals as goal

pub returns : goal.returns
returns c =
    let n = c.replayed.ensures in
    same_lent c.args.one.now _ n.net n.state c.requires (λ w. ready_task w c.args.i) _ _ c.ready_at.ensures.some c.ready_at.ensures.none c.ready_at-2.ensures.some c.ready_at-2.ensures.none
