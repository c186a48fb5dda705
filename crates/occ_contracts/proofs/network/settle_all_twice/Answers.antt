use Rattle.occ_contracts.proofs.Networks.{both_own, both_settled_all}
use Rattle.occ_contracts.proofs.network.settle_all_twice.Goals as goal

pub returns-clause-left : goal.returns-clause-left
returns-clause-left c =
    let n = c.replayed.ensures in
    both_settled_all c.args.one.now _ n.net n.state c.requires.network c.args.number c.args.count c.args.pick (c.requires.turns n.net n.state).own.some _ _ _ _ c.settle_all.ensures.settled c.settle_all-2.ensures.settled

pub returns-clause-spent : goal.returns-clause-spent
returns-clause-spent c =
    let n = c.replayed.ensures in
    both_own c.args.one.now _ n.net n.state c.requires.network c.args.number _ _ c.settle_all.ensures.spent c.settle_all-2.ensures.spent
