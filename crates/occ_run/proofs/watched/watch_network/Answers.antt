use Rattle.occ_run.proofs.Telling.{may_hold}
use Rattle.occ_run.proofs.watched.watch_network.Goals as goal

pub publish-publisher-requires-clause-may : goal.publish-publisher-requires-clause-may
publish-publisher-requires-clause-may g c = may_hold g.J.Naming.may _ _ _ _ c.requires.may
