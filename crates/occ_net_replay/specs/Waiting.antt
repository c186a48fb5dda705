-- What a turn that ends at an offer, at an input, at a choice or at a fork finds among the other processes.
-- Manual: nothing; this is (own).
use Rattle.std.specs.Prelude.{Bool, IsTrue, List, None, Option, Some, [], length, slice_get, ℕ, ℤ, ◌+◌, ◌<◌, ◌^◌, ◌∷◌, ◌≡◌}
use Rattle.occ_term.specs.declared.message.Message.{Message}
use Rattle.occ_term.specs.Frames.{is_held}
use Rattle.occ_term.specs.UnfoldedProgram.{UnfoldedProgram, IsWellFormed, Lawful}
use Rattle.occ_machine.specs.SameStop.{IsRising}
use Rattle.occ_machine.specs.Compiled.{Program, IsCompiledFrom}
use Rattle.occ_machine.specs.Machine.{Body, Stopping}
use Rattle.occ_machine.specs.declared.task.Arm.{Arm}
use Rattle.occ_machine.specs.declared.task.Task.{Task}
use Rattle.occ_machine.specs.declared.task.Wait.{Wait}
use Rattle.occ_machine.specs.declared.task.Wait.TheVariants.{Ready, Took, Offers, Awaits, Chooses, Joins, Halted, Done, Faulted}
use Rattle.occ_net_replay.specs.declared.choice.Choice.{Choice}
use Rattle.occ_net_replay.specs.Following.{AreBytes}
use Rattle.occ_net_replay.specs.Moments.{is_read}
use Rattle.occ_net_replay.specs.Replay.{Net, Tasks, HasTask, may_go, Replays}

-- a replay of the code of a lawful program, whose bodies have one quantum, that can go on by a choice
pub record IsReplay (u : UnfoldedProgram) (p : Program) (quantum : ℕ) (keyboard : List ℕ) (cs : List Choice) (net : Net) : Type 0 where
  pub well_formed : IsWellFormed u
  pub lawful : Lawful u
  pub compiled : IsCompiledFrom u quantum p
  pub bytes : AreBytes keyboard
  pub few : 1 + length cs < 2 ^ 64
  pub replays : Replays p keyboard cs net

-- a turn of the process with that number
pub record IsTurn (p : Program) (tasks : Tasks) (n : ℕ) (after : Task) : Type 0 where
  pub body : Body
  pub before : Task
  pub has_body : slice_get p.bodies n ≡ Some body
  pub has_task : HasTask tasks n before
  pub may : IsTrue (may_go before.wait)
  pub stops : Stopping body before after

-- one turn more can be counted
abbrev pub TurnsAreFew : Type 0
TurnsAreFew =
    (u : UnfoldedProgram) (p : Program) (quantum : ℕ) (keyboard : List ℕ) (cs : List Choice) (net : Net) (n : ℕ) (t : Task)
    → IsReplay u p quantum keyboard cs net → HasTask net.tasks n t → t.turns + 1 < 2 ^ 64

-- the channel is declared, and no other process offers on it
pub record OffersAlone (p : Program) (tasks : Tasks) (c : ℕ) : Type 0 where
  pub declared : c < length p.channels
  pub alone : (i : ℕ) (t : Task) (m : Message) → HasTask tasks i t → t.wait ≡ Offers c m → ⊥

abbrev pub TurnsOfferAlone : Type 0
TurnsOfferAlone =
    (u : UnfoldedProgram) (p : Program) (quantum : ℕ) (keyboard : List ℕ) (cs : List Choice) (net : Net) (n : ℕ) (after : Task) (c : ℕ) (m : Message)
    → IsReplay u p quantum keyboard cs net → IsTurn p net.tasks n after → after.wait ≡ Offers c m → OffersAlone p net.tasks c

-- ---- who waits for a message

abbrev pub and_channel : Option ℕ → List ℕ → List ℕ
and_channel None cs = cs
and_channel (Some c) cs = c ∷ cs

-- the channels that arms input from; SKIP has none
abbrev pub channels_of : List Arm → List ℕ
channels_of [] = []
channels_of (a ∷ arms) = and_channel a.chan (channels_of arms)

-- the channels on which a process waits for a message, by an input or by the arms of a choice
abbrev pub channels_at : Wait → List ℕ
channels_at Ready = []
channels_at (Took arm indices m) = []
channels_at (Offers c m) = []
channels_at (Awaits c) = c ∷ []
channels_at (Chooses pri arms) = channels_of arms
channels_at (Joins ns) = []
channels_at Halted = []
channels_at Done = []
channels_at (Faulted e) = []

abbrev pub listens_on : Wait → ℕ → Bool
listens_on w c = is_held (channels_at w) c

-- the channel is declared, and no other process waits for a message on it
pub record ListensAlone (p : Program) (tasks : Tasks) (c : ℕ) : Type 0 where
  pub declared : c < length p.channels
  pub alone : (i : ℕ) (t : Task) → HasTask tasks i t → IsTrue (listens_on t.wait c) → ⊥

abbrev pub TurnsListenAlone : Type 0
TurnsListenAlone =
    (u : UnfoldedProgram) (p : Program) (quantum : ℕ) (keyboard : List ℕ) (cs : List Choice) (net : Net) (n : ℕ) (after : Task) (c : ℕ)
    → IsReplay u p quantum keyboard cs net → IsTurn p net.tasks n after → IsTrue (listens_on after.wait c) → ListensAlone p net.tasks c

-- two processes do not offer on one channel, nor wait for a message on one, nor fork one branch
pub record OnOthers (v w : Wait) : Type 0 where
  pub offers : (c : ℕ) (m k : Message) → v ≡ Offers c m → w ≡ Offers c k → ⊥
  pub listens : (c : ℕ) → IsTrue (listens_on v c) → IsTrue (listens_on w c) → ⊥
  pub forks : (ns ms : List ℕ) (i : ℕ) → v ≡ Joins ns → w ≡ Joins ms → IsTrue (is_held ns i) → IsTrue (is_held ms i) → ⊥

-- the next turns of two processes end apart
abbrev pub TurnsAreApart : Type 0
TurnsAreApart =
    (u : UnfoldedProgram) (p : Program) (quantum : ℕ) (keyboard : List ℕ) (cs : List Choice) (net : Net) (n m : ℕ) (after other : Task)
    → IsReplay u p quantum keyboard cs net → IsTurn p net.tasks n after → IsTurn p net.tasks m other → (n ≡ m → ⊥) → OnOthers after.wait other.wait

-- where the main process may take a turn, nobody else may
abbrev pub MainTurnsAlone : Type 0
MainTurnsAlone =
    (u : UnfoldedProgram) (p : Program) (quantum : ℕ) (keyboard : List ℕ) (cs : List Choice) (net : Net) (m : ℕ) (after other : Task)
    → IsReplay u p quantum keyboard cs net → IsTurn p net.tasks 0 after → IsTurn p net.tasks m other → (0 ≡ m → ⊥) → ⊥

-- no turn ends at an input from the screen's channel or from the error channel
abbrev pub TurnsHearNoScreen : Type 0
TurnsHearNoScreen =
    (u : UnfoldedProgram) (p : Program) (quantum : ℕ) (keyboard : List ℕ) (cs : List Choice) (net : Net) (n : ℕ) (after : Task) (c : ℕ)
    → IsReplay u p quantum keyboard cs net → IsTurn p net.tasks n after → IsTrue (listens_on after.wait c) → IsTrue (is_read c) → ⊥

-- no turn ends with a message taken: what is taken is taken between turns
abbrev pub TurnsNeverTake : Type 0
TurnsNeverTake =
    (u : UnfoldedProgram) (p : Program) (quantum : ℕ) (keyboard : List ℕ) (cs : List Choice) (net : Net) (n : ℕ) (after : Task) (arm : ℕ) (indices : List ℤ) (m : Option Message)
    → IsReplay u p quantum keyboard cs net → IsTurn p net.tasks n after → after.wait ≡ Took arm indices m → ⊥

-- The branches are numbered behind their process, in rising order, and have bodies. None has begun but those that are done, and
-- nobody else waits for one.
pub record ForksAlone (p : Program) (tasks : Tasks) (n : ℕ) (ns : List ℕ) : Type 0 where
  pub rising : IsRising ns
  pub behind : (i : ℕ) → IsTrue (is_held ns i) → n < i
  pub have_bodies : (i : ℕ) → IsTrue (is_held ns i) → i < length p.bodies
  pub free : (i : ℕ) (t : Task) → IsTrue (is_held ns i) → HasTask tasks i t → t.wait ≡ Done
  pub alone : (i j : ℕ) (t : Task) (ms : List ℕ) → IsTrue (is_held ns i) → HasTask tasks j t → t.wait ≡ Joins ms → IsTrue (is_held ms i) → ⊥

abbrev pub TurnsForkAlone : Type 0
TurnsForkAlone =
    (u : UnfoldedProgram) (p : Program) (quantum : ℕ) (keyboard : List ℕ) (cs : List Choice) (net : Net) (n : ℕ) (after : Task) (ns : List ℕ)
    → IsReplay u p quantum keyboard cs net → IsTurn p net.tasks n after → after.wait ≡ Joins ns → ForksAlone p net.tasks n ns
