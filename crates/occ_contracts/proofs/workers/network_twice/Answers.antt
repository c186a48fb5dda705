use Rattle.occ_contracts.proofs.Gathering.{networks_alike}
use Rattle.occ_contracts.proofs.workers.network_twice.Goals as goal

pub returns : goal.returns
returns g c = networks_alike c.args.code.now c.args.keyboard.now c.args.limit _ _ c.run_network.ensures.run c.run_network-2.ensures.run
