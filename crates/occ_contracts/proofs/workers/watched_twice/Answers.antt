use Rattle.occ_contracts.proofs.Gathering.{published_alike, watched_networks_alike}
use Rattle.occ_contracts.proofs.workers.watched_twice.Goals as goal

pub returns-clause-published : goal.returns-clause-published
returns-clause-published g c =
    let one = c.watch_network.ensures in
    let other = c.watch_network-2.ensures in
    published_alike c.args.code.now c.args.keyboard.now c.args.limit _ c.args.one c.args.other c.requires.same _ _ one.run other.run one.shown other.shown

pub returns-clause-network : goal.returns-clause-network
returns-clause-network g c = watched_networks_alike c.args.code.now c.args.keyboard.now c.args.limit _ _ c.watch_network.ensures.run c.watch_network-2.ensures.run
