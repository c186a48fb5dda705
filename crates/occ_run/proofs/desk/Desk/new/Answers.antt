use Rattle.occ_run.proofs.Desks.{held_new}
use Rattle.occ_run.proofs.Growing.{behind_new}
use Rattle.occ_run.proofs.desk.Desk.new.Goals as goal

pub invariant_of-result : goal.invariant_of-result
invariant_of-result g c =
    (c.requires.opening_keeper.0, held_new _ _ _ _ _ c.requires.network c.requires.limit c.requires.stop c.requires.opening_keeper.1, behind_new _ _ _ _ _ c.requires.takings.0 c.requires.takings.1)
