-- Leases: a process goes out with its body and its task.
-- Manual: nothing; this is (own).
use Rattle.std.specs.Prelude.{None, Option, Some, length, slice_get, true, ℕ, ◌+◌, ◌<◌, ◌^◌, ◌≡◌}
use Rattle.std.specs.Arc.{arc_value}
use Rattle.occ_proc.specs.Turns.{HasStop}
use Rattle.occ_net_replay.specs.Replay.{Net, HasTask}
use Rattle.occ_net.specs.Networks.{Past, leased, with_out}
use Rattle.occ_net.specs.declared.leasing.Lease.{Lease}

-- its task can take a turn of its body
pub record CanTakeTurn (l : Lease) : Type 0 where
  pub small : length (arc_value l.body).code + 1 < 2 ^ 32
  pub counts : l.task.turns + 1 < 2 ^ 64
  pub stops : HasStop (arc_value l.body) l.task

-- body and task are the network's own of the process with this number
pub record IsOwnLease (n : Past) (net : Net) (number : ℕ) (l : Lease) : Type 0 where
  pub number_is : l.task.number ≡ number
  pub body : slice_get n.program.bodies number ≡ Some (arc_value l.body)
  pub task : HasTask net.tasks number l.task

-- the process that is to be leased goes out
pub record LeasesOne (old : Past) (net : Net) (l : Lease) (new : Past) : Type 0 where
  pub is : leased old net ≡ Some l.task.number
  pub own : IsOwnLease old net l.task.number l
  pub out : new ≡ with_out old l.task.number true

-- none where there is none to be leased
abbrev pub Leases : Past → Net → Option Lease → Past → Type 0
Leases old net None new = (leased old net ≡ None) × (new ≡ old)
Leases old net (Some l) new = LeasesOne old net l new
