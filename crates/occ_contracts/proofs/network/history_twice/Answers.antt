use Rattle.occ_contracts.proofs.Networks.{same_history}
use Rattle.occ_contracts.proofs.network.history_twice.Goals as goal

pub returns : goal.returns
returns c =
    let n = c.replayed.ensures in
    same_history c.args.one.now _ n.net n.state c.requires c.args.chan _ _ c.history.ensures.some c.history.ensures.there c.history-2.ensures.some c.history-2.ensures.there
