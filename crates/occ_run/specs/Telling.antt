-- What watchers are told of a run, when it is over and while it goes on.
-- Manual: nothing; this is (own).
use Rattle.std.specs.Prelude.{List, [], false, length, true, ℕ, ◌+◌, ◌++◌, ◌<◌, ◌≡◌, ◌≤◌, ◌^◌}
use mathlib.Core.List.{IsPrefix}
use Rattle.logbook.specs.Pages.{Book}
use Rattle.occ_term.specs.Runs.{Entry, entries}
use Rattle.occ_term.specs.declared.communication.Communication.{Communication}
use Rattle.occ_term.specs.declared.names.Channel.{Channel}
use Rattle.occ_machine.specs.Compiled.{Program}
use Rattle.occ_board.specs.Editions.{Reached, edition, reached}
use Rattle.occ_board.specs.Traces.{Publishing, publishing}
use Rattle.occ_net.specs.Networks.{InState, IsState, Past}
use Rattle.occ_net_replay.specs.declared.choice.Choice.{Choice}
use Rattle.occ_net_replay.specs.Replay.{Net, Replays}
use Rattle.occ_net_tables.specs.TracePlaces.{Place, StandBehind, place_behind}
use Rattle.occ_shown.specs.Answers.{entries_in, names_of}

-- behind what was held the network's trace was published, and the board is closed
abbrev pub TellsTrace : List Channel → (held : List Entry) → Past → Publishing → Type 0
TellsTrace channels held n p = InState n (λ net. p ≡ publishing (held ++ entries_in channels net.trace) [] true)

-- These are the communications of a replay of this code on this keyboard, of no more choices than the limit: all that it has completed.
pub record IsTraceOf (p : Program) (keyboard : List ℕ) (limit : ℕ) (xs : List Communication) : Type 0 where
  pub choices : List Choice
  pub net : Net
  pub replays : Replays p keyboard choices net
  pub few : length choices ≤ limit
  pub is : net.trace ≡ xs

-- what was held may be shown, and behind it the trace of each such replay
abbrev pub MayTell : (may : List Entry → Type 0) → Program → (keyboard : List ℕ) → (limit : ℕ) → (held : List Entry) → Type 0
MayTell may p keyboard limit held = (xs : List Communication) → IsTraceOf p keyboard limit xs → may (held ++ entries_in p.channels xs)

-- ---- what was taken from under the lock

-- the trace of a run as an edition of the history of what was taken
abbrev pub taken : Book → Program → List Communication → Reached
taken book p xs = reached book (edition (entries_in p.channels xs) false)

-- what was taken last is of this history, which goes on, and begins the network's trace
pub record IsBehind (book : Book) (p : Program) (n : Past) (head : Book) (told : Reached) : Type 0 where
  pub history : head ≡ book
  pub of_it : told.book ≡ book
  pub going : told.edition.last ≡ false
  pub begins : (net : Net) → IsState n net → IsPrefix told.edition.entries (entries_in p.channels net.trace)

-- what was taken last goes on in this history, and begins this trace
abbrev pub IsNext : Program → (head : Book) → (told : Reached) → List Communication → Type 0
IsNext p head told xs = (head ≡ told.book) × (told.edition.last ≡ false) × IsPrefix told.edition.entries (entries_in p.channels xs)

-- The trace that was taken is that of a replay, and what was taken before begins it. The mark is behind it, and the news are what it
-- has behind the mark before.
pub record IsTake (p : Program) (keyboard : List ℕ) (limit : ℕ) (mine : Reached) (before : Place) (next : Reached) (after : Place) (news : List Communication) : Type 0 where
  pub all : List Communication
  pub of_run : IsTraceOf p keyboard limit all
  pub told : next ≡ taken mine.book p all
  pub more : IsPrefix mine.edition.entries (entries_in p.channels all)
  pub small : length all < 2 ^ 63
  pub behind : StandBehind all before news
  pub mark : after ≡ place_behind all

-- ---- what is published of it

-- these entries are pending too, and the board is open
abbrev pub and_pending : Publishing → List Entry → Publishing
and_pending p xs = publishing p.published (p.pending ++ xs) false

-- so are those of these communications, which come behind so many
abbrev pub and_news : Publishing → List Channel → (number : ℕ) → List Communication → Publishing
and_news p channels number news = and_pending p (entries (names_of channels) (number + 1) news)
