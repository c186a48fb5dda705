use Rattle.occ_contracts.proofs.Networks.{same_replay}
use Rattle.occ_contracts.proofs.network.replay_twice.Goals as goal

pub returns-clause-ending : goal.returns-clause-ending
returns-clause-ending c =
    let n = c.replayed.ensures in
    (same_replay c.args.one _ n.net n.state c.requires _ _ c.into_replay.ensures c.into_replay-2.ensures).0

pub returns-clause-choices : goal.returns-clause-choices
returns-clause-choices c =
    let n = c.replayed.ensures in
    (same_replay c.args.one _ n.net n.state c.requires _ _ c.into_replay.ensures c.into_replay-2.ensures).1

pub returns-clause-trace : goal.returns-clause-trace
returns-clause-trace c =
    let n = c.replayed.ensures in
    (same_replay c.args.one _ n.net n.state c.requires _ _ c.into_replay.ensures c.into_replay-2.ensures).2
