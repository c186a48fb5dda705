-- What a process stands at that takes no block of memory.
-- Manual: nothing; this is (own).
use Rattle.std.specs.Prelude.{None, Option, Some, ℕ, ⊤, ◌≡◌}
use Rattle.occ_machine.specs.declared.task.Task.{Task}
use Rattle.occ_machine.specs.declared.task.Wait.{Wait}
use Rattle.occ_machine.specs.declared.task.Wait.TheVariants.{Ready, Took, Offers, Awaits, Chooses, Joins, Halted, Done, Faulted}
use Rattle.occ_net_replay.specs.Replay.{HasTask, Tasks}

-- ---- private contracts alone cite what stands here

-- it is ready, or it awaits a message on one channel
abbrev pub IsLight : Wait → Type 0
IsLight Ready = ⊤
IsLight (Took arm indices m) = ⊥
IsLight (Offers c m) = ⊥
IsLight (Awaits c) = ⊤
IsLight (Chooses pri arms) = ⊥
IsLight (Joins ns) = ⊥
IsLight Halted = ⊥
IsLight Done = ⊥
IsLight (Faulted e) = ⊥

-- so the process stands
pub record StandsLight (tasks : Tasks) (n : ℕ) : Type 0 where
  pub task : Task
  pub there : HasTask tasks n task
  pub light : IsLight task.wait

-- the channel on which it awaits a message, if it does
abbrev pub awaited_by : Wait → Option ℕ
awaited_by Ready = None
awaited_by (Took arm indices m) = None
awaited_by (Offers c m) = None
awaited_by (Awaits c) = Some c
awaited_by (Chooses pri arms) = None
awaited_by (Joins ns) = None
awaited_by Halted = None
awaited_by Done = None
awaited_by (Faulted e) = None

-- the same, whatever task the process has
abbrev pub IsAwaited : Tasks → ℕ → Option ℕ → Type 0
IsAwaited tasks n chan = (t : Task) → HasTask tasks n t → chan ≡ awaited_by t.wait
