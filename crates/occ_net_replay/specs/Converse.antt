-- Each run of the source is that of some choices: the converse of the law that each replay is a run.
-- Manual: nothing; this is (own).
use Rattle.std.specs.Prelude.{List, Some, length, ℕ, ◌+◌, ◌<◌, ◌^◌, ◌≡◌, ◌≢◌, ◌≤◌}
use Rattle.occ_term.specs.declared.ending.Ending.{Ending}
use Rattle.occ_term.specs.declared.ending.Ending.TheVariants.{Limit}
use Rattle.occ_term.specs.UnfoldedProgram.{UnfoldedProgram, IsWellFormed, Lawful, meaning}
use Rattle.occ_term.specs.System.{System, start}
use Rattle.occ_term.specs.Runs.{EndsBy, Event, Run, communications}
use Rattle.occ_machine.specs.Compiled.{Program, IsCompiledFrom}
use Rattle.occ_net_replay.specs.declared.choice.Choice.{Choice}
use Rattle.occ_net_replay.specs.Following.{AreBytes}
use Rattle.occ_net_replay.specs.Moments.{IsOneRun}
use Rattle.occ_net_replay.specs.Replay.{Net, Replays, ending_of}

-- The run is that of these choices, one for each turn: their replay has its turns, its communications, its faults and its ending, and
-- comes to its very system.
pub record IsOfChoices (u : UnfoldedProgram) (p : Program) (quantum : ℕ) (keyboard : List ℕ) (events : List Event) (system : System) : Type 0 where
  pub choices : List Choice
  pub net : Net
  pub replays : Replays p keyboard choices net
  pub one : IsOneRun u p quantum keyboard choices net
  pub same : one.follows.events ≡ events
  pub here : one.follows.system ≡ system
  pub as_many : length choices ≡ length events

-- Each run of a lawful program, of fewer turns than the code can count, is that of some choices.
abbrev pub RunsAreReplays : Type 0
RunsAreReplays =
    (u : UnfoldedProgram) (p : Program) (quantum : ℕ) (keyboard : List ℕ) (events : List Event) (system : System)
    → IsWellFormed u → Lawful u → IsCompiledFrom u quantum p → AreBytes keyboard → length events < 2 ^ 64
    → Run p.errors quantum (start (meaning u) keyboard) events system
    → IsOfChoices u p quantum keyboard events system

-- ---- what of all lists of choices is so of all runs

-- these choices come to the run's ending, with its communications
pub record IsEndedBy (p : Program) (keyboard : List ℕ) (events : List Event) (ending : Ending) : Type 0 where
  pub choices : List Choice
  pub net : Net
  pub replays : Replays p keyboard choices net
  pub ends : ending_of p.errors net ≡ Some ending
  pub communicates : net.trace ≡ communications events
  pub as_many : length choices ≡ length events

-- where a run has come to an ending, some list of choices comes to it too
abbrev pub EndedRunsAreReplays : Type 0
EndedRunsAreReplays =
    (u : UnfoldedProgram) (p : Program) (quantum : ℕ) (keyboard : List ℕ) (events : List Event) (system : System) (ending : Ending)
    → IsWellFormed u → Lawful u → IsCompiledFrom u quantum p → AreBytes keyboard → length events < 2 ^ 64
    → Run p.errors quantum (start (meaning u) keyboard) events system → EndsBy p.errors system ending → ending ≢ Limit
    → IsEndedBy p keyboard events ending

-- where no list of more choices has a replay, no run has more turns
abbrev pub RunsAreAsShort : Type 0
RunsAreAsShort =
    (u : UnfoldedProgram) (p : Program) (quantum : ℕ) (keyboard : List ℕ) (most : ℕ)
    → IsWellFormed u → Lawful u → IsCompiledFrom u quantum p → AreBytes keyboard → most + 1 < 2 ^ 64
    → ((cs : List Choice) (net : Net) → Replays p keyboard cs net → length cs ≤ most)
    → (events : List Event) (system : System) → Run p.errors quantum (start (meaning u) keyboard) events system → length events ≤ most
