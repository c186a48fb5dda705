-- The one store of the run that a replay is followed by, beside the frames of its tasks.
-- Manual: nothing; this is (own).
use Rattle.std.specs.Prelude.{Bool, IsFalse, IsTrue, List, Some, [], false, length, slice_get, ℕ, ◌^◌, ◌<◌, ◌||◌, ◌∷◌, ◌≡◌}
use Rattle.std.specs.Option.{option_map_or}
use Rattle.occ_term.specs.Frames.{is_held, at}
use Rattle.occ_term.specs.System.{System, system, offers}
use Rattle.occ_term.specs.UnfoldedProgram.{UnfoldedProgram, IsWellFormed, Lawful}
use Rattle.occ_term.specs.Values.{Store}
use Rattle.occ_machine.specs.Compiled.{Program, IsCompiledFrom}
use Rattle.occ_machine.specs.Machine.{Body}
use Rattle.occ_machine.specs.declared.task.Task.{Task}
use Rattle.occ_machine.specs.declared.task.Wait.TheVariants.{Joins, Done}
use Rattle.occ_net_replay.specs.declared.choice.Choice.{Choice}
use Rattle.occ_net_replay.specs.Following.{AreBytes, Followed}
use Rattle.occ_net_replay.specs.Replay.{Net, HasTask, Replays, standing}

abbrev pub store_of : System → Store
store_of (system kb p s noted) = s

-- one of the processes with these numbers can write the cell
abbrev pub is_written : List Body → List ℕ → ℕ → Bool
is_written bodies [] c = false
is_written bodies (n ∷ ns) c = option_map_or (λ b. is_held b.writes c) (slice_get bodies n) false || is_written bodies ns c

-- The offers that stand are those of the system. The frame of a process that is not done has the store's values, save in cells
-- that a branch which it waits for can write. Until the join, that of a branch that is done has them in the cells that it can write.
pub record SharesStore (p : Program) (net : Net) (a : System) : Type 0 where
  pub same_offers : (c : ℕ) → standing net c ≡ offers a c
  pub frames : (n : ℕ) (b : Body) (t : Task) (c : ℕ)
      → slice_get p.bodies n ≡ Some b → HasTask net.tasks n t → (t.wait ≡ Done → ⊥) → IsTrue (is_held b.cells c)
      → ((ns : List ℕ) → t.wait ≡ Joins ns → IsFalse (is_written p.bodies ns c)) → at t.frame c ≡ store_of a c
  pub done_frames : (m n : ℕ) (parent t : Task) (ns : List ℕ) (b : Body) (c : ℕ)
      → HasTask net.tasks m parent → parent.wait ≡ Joins ns → IsTrue (is_held ns n)
      → slice_get p.bodies n ≡ Some b → HasTask net.tasks n t → t.wait ≡ Done → IsTrue (is_held b.writes c) → at t.frame c ≡ store_of a c

abbrev pub ReplaysShareStore : Type 0
ReplaysShareStore =
    (u : UnfoldedProgram) (p : Program) (quantum : ℕ) (keyboard : List ℕ) (cs : List Choice) (net : Net)
    → IsWellFormed u → Lawful u → IsCompiledFrom u quantum p → AreBytes keyboard → length cs < 2 ^ 64
    → Replays p keyboard cs net → (f : Followed u keyboard quantum p.errors net) × SharesStore p net f.system
