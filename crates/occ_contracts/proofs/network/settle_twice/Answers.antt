use Rattle.occ_contracts.proofs.Networks.{agree_on_turn}
use Rattle.occ_contracts.proofs.network.settle_twice.Goals as goal

pub returns-clause-given : goal.returns-clause-given
returns-clause-given c =
    let n = c.replayed.ensures in
    (agree_on_turn c.args.one.now _ n.net n.state c.requires.network c.args.segment _ c.requires.segment c.args.pick _ _ _ _
    c.settle.ensures.settled c.settle.ensures.refused c.settle-2.ensures.settled c.settle-2.ensures.refused).0

pub returns-clause-left : goal.returns-clause-left
returns-clause-left c =
    let n = c.replayed.ensures in
    (agree_on_turn c.args.one.now _ n.net n.state c.requires.network c.args.segment _ c.requires.segment c.args.pick _ _ _ _
    c.settle.ensures.settled c.settle.ensures.refused c.settle-2.ensures.settled c.settle-2.ensures.refused).1

pub returns-clause-refused : goal.returns-clause-refused
returns-clause-refused c =
    let n = c.replayed.ensures in
    (agree_on_turn c.args.one.now _ n.net n.state c.requires.network c.args.segment _ c.requires.segment c.args.pick _ _ _ _
    c.settle.ensures.settled c.settle.ensures.refused c.settle-2.ensures.settled c.settle-2.ensures.refused).2
