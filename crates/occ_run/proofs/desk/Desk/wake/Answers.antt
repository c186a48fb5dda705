use Rattle.occ_run.proofs.Desks.{held_still}
use Rattle.occ_run.proofs.Growing.{behind_same}
use Rattle.occ_run.proofs.desk.Desk.wake.Goals as goal

pub invariant_of-self : goal.invariant_of-self
invariant_of-self g c =
    let e = c.wake.ensures in
    (c.self.invariant.0, held_still _ _ _ _ _ _ c.self.invariant.1 e.network e.limit e.stop, behind_same _ _ _ _ _ c.self.invariant.2 _ e.network)
