use Rattle.occ_run.proofs.Desks.{held_stopped}
use Rattle.occ_run.proofs.Growing.{behind_same}
use Rattle.occ_run.specs.declared.progress.Stop.TheVariants as stop
use Rattle.occ_run.proofs.desk.Desk.refuse_growth.Goals as goal

pub invariant_of-self : goal.invariant_of-self
invariant_of-self g c =
    let e = c.refuse_growth.ensures in
    (c.self.invariant.0, held_stopped _ _ _ _ _ _ c.self.invariant.1 stop.Memory e.network e.limit e.stop, behind_same _ _ _ _ _ c.self.invariant.2 _ e.network)
