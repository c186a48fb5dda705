-- A run of the source that a replay of its compiled code follows.
-- Manual: nothing; this is (own).
use Rattle.std.specs.Prelude.{IsTrue, List, None, Option, Some, [], length, map, slice_get, ℕ, ⊤, ◌+◌, ◌<◌, ◌^◌, ◌∷◌, ◌≡◌}
use Rattle.occ_term.specs.declared.fault.Errors.{Errors}
use Rattle.occ_term.specs.declared.message.Message.{Message}
use Rattle.occ_term.specs.declared.protocol.Protocol.{Protocol}
use Rattle.occ_term.specs.UnfoldedProgram.{UnfoldedProgram, IsWellFormed, Lawful, declared, meaning}
use Rattle.occ_term.specs.System.{System, start, noted_in}
use Rattle.occ_term.specs.Runs.{Event, event, Run, communications, messages_on, EndsBy}
use Rattle.occ_machine.specs.SameStop.{FitsProtocol}
use Rattle.occ_machine.specs.Machine.{Body, Stopping}
use Rattle.occ_machine.specs.declared.task.Task.{Task}
use Rattle.occ_machine.specs.declared.task.Wait.TheVariants.{Joins}
use Rattle.occ_machine.specs.Compiled.{Program, IsCompiledFrom}
use Rattle.occ_net_replay.specs.declared.choice.Choice.{Choice}
use Rattle.occ_term.specs.declared.ending.Ending.{Ending}
use Rattle.occ_term.specs.declared.ending.Ending.TheVariants as E
use Rattle.occ_net_replay.specs.Replay.{Net, HasTask, may_go, ending_of, Replays}

-- the run's ending; where there is none, it goes on
abbrev pub or_limit : Option Ending → Ending
or_limit None = E.Limit
or_limit (Some e) = e

abbrev pub process_in : Event → ℕ
process_in (event n x) = n

-- each message is one of the protocol
abbrev pub AllFit : Option Protocol → List Message → Type 0
AllFit p [] = ⊤
AllFit p (m ∷ ms) = FitsProtocol p m × AllFit p ms

-- The run takes a turn for each of the replay's, by the same process; it has the same communications, notes the same faults, and
-- has the same ending. On each channel the messages output and those input are the communicated ones, in order, each of the
-- channel's protocol.
pub record Followed (u : UnfoldedProgram) (keyboard : List ℕ) (quantum : ℕ) (errors : Errors) (net : Net) : Type 0 where
  pub events : List Event
  pub system : System
  pub run : Run errors quantum (start (meaning u) keyboard) events system
  pub turns : map process_in events ≡ net.turns
  pub communicates : communications events ≡ net.trace
  pub output : (c : ℕ) → net.output c ≡ messages_on c net.trace
  pub input : (c : ℕ) → net.input c ≡ messages_on c net.trace
  pub fits : (c : ℕ) → AllFit ((declared u).protocols c) (messages_on c net.trace)
  pub noted : noted_in system ≡ net.noted
  pub ends : EndsBy errors system (or_limit (ending_of errors net))

-- what a keyboard may have
abbrev pub AreBytes : List ℕ → Type 0
AreBytes [] = ⊤
AreBytes (b ∷ bs) = (b < 256) × AreBytes bs

-- each replay of the code of a lawful program, whose bodies have one quantum, is followed by a run of the program
abbrev pub ReplaysAreRuns : Type 0
ReplaysAreRuns =
    (u : UnfoldedProgram) (p : Program) (quantum : ℕ) (keyboard : List ℕ) (cs : List Choice) (net : Net)
    → IsWellFormed u → Lawful u → IsCompiledFrom u quantum p → AreBytes keyboard → length cs < 2 ^ 64
    → Replays p keyboard cs net → Followed u keyboard quantum p.errors net

-- What has noted a fault never ends: the process that faulted stands where it is, and those above it wait for it.
abbrev pub NotedNeverEnd : Type 0
NotedNeverEnd =
    (u : UnfoldedProgram) (p : Program) (quantum : ℕ) (keyboard : List ℕ) (cs : List Choice) (net : Net)
    → IsWellFormed u → Lawful u → IsCompiledFrom u quantum p → AreBytes keyboard → length cs < 2 ^ 64
    → Replays p keyboard cs net → ending_of p.errors net ≡ Some E.Ended → net.noted ≡ []

-- a task that may take a turn then has one
abbrev pub ReadyTasksStop : Type 0
ReadyTasksStop =
    (u : UnfoldedProgram) (p : Program) (quantum : ℕ) (keyboard : List ℕ) (cs : List Choice) (net : Net) (n : ℕ) (body : Body) (t : Task)
    → IsWellFormed u → Lawful u → IsCompiledFrom u quantum p → AreBytes keyboard → 1 + length cs < 2 ^ 64
    → Replays p keyboard cs net → slice_get p.bodies n ≡ Some body → HasTask net.tasks n t → IsTrue (may_go t.wait)
    → (after : Task) × Stopping body t after

-- a turn of the one process of a program never ends at a fork
abbrev pub OneNeverForks : Type 0
OneNeverForks =
    (u : UnfoldedProgram) (p : Program) (quantum : ℕ) (keyboard : List ℕ) (cs : List Choice) (net : Net) (n : ℕ) (body : Body) (t after : Task) (ns : List ℕ)
    → IsWellFormed u → Lawful u → IsCompiledFrom u quantum p → AreBytes keyboard → 1 + length cs < 2 ^ 64
    → Replays p keyboard cs net → p.bodies ≡ body ∷ [] → HasTask net.tasks n t → IsTrue (may_go t.wait) → Stopping body t after → after.wait ≡ Joins ns → ⊥
