use Rattle.std.proofs.Common.{◌≡◌, drop}
use Rattle.std.specs.Prelude.{slice_get}
use Rattle.occ_term.specs.Selecting.{ready_among}
use Rattle.occ_machine.specs.declared.task.Arm.{Arm}
use Rattle.occ_net_tables.specs.Choosing.{offered_by}
use Rattle.occ_net_tables.proofs.choosing.ready_place.Given as goal

abbrev pub invariant-loop-place : goal.invariant-loop-place
invariant-loop-place l = slice_get (ready_among (λ (a : Arm). a.chan) (offered_by l.named l.offering) (drop l.place l.arms)) l.left ≡ slice_get (ready_among (λ (a : Arm). a.chan) (offered_by l.named l.offering) l.arms) l.wanted
