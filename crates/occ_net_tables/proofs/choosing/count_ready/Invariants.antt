use Rattle.std.proofs.Common.{◌≡◌, ◌+◌, ◌≤◌, drop, length}
use Rattle.occ_term.specs.Selecting.{ready_among}
use Rattle.occ_machine.specs.declared.task.Arm.{Arm}
use Rattle.occ_net_tables.specs.Choosing.{offered_by}
use Rattle.occ_net_tables.proofs.choosing.count_ready.Given as goal

abbrev pub invariant-loop-arm : goal.invariant-loop-arm
invariant-loop-arm l = record {
  counted : l.count + length (ready_among (λ (a : Arm). a.chan) (offered_by l.named l.offering) (drop l.arm-index l.arms)) ≡ length (ready_among (λ (a : Arm). a.chan) (offered_by l.named l.offering) l.arms);
  few : l.count ≤ l.arm-index;
}
