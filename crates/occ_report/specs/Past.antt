-- Choices that count past the processes that are ready.
-- Manual: nothing; this is (own).
use Rattle.std.specs.Prelude.{List, None, Option, Some, [], length, ℕ, ◌+◌, ◌++◌, ◌<◌, ◌≤◌, ◌∷◌, ◌≡◌}
use Rattle.occ_machine.specs.Compiled.{Program}
use Rattle.occ_net_replay.specs.declared.choice.Choice.{Choice}
use Rattle.occ_net_replay.specs.Replay.{Net, OneTurn, ending_of, first_net, ready_from}
use Rattle.occ_net_tables.specs.Holding.{Holds}
use Rattle.occ_net_tables.specs.Outcomes.{Begins}
use Rattle.occ_net_tables.specs.declared.tables.Tables.{Tables}

-- how many processes may take a turn
abbrev pub count_ready : Net → ℕ
count_ready net = length (ready_from 0 net.tasks)

-- a replay by choices each of which names a process that was ready then
pub data NamesReady (p : Program) (keyboard : List ℕ) : List Choice → Net → Type 0 where
  none_named : NamesReady p keyboard [] (first_net p keyboard)
  one_named : {cs : List Choice} {c : Choice} {a b : Net}
      → NamesReady p keyboard cs a → ending_of p.errors a ≡ None → c.which < count_ready a → OneTurn p c a b → NamesReady p keyboard (cs ++ c ∷ []) b

-- each choice that the replay uses does, which are all of them where it goes on
pub record AllNameReady (p : Program) (keyboard : List ℕ) (list : List Choice) : Type 0 where
  pub used : List Choice
  pub net : Net
  pub named : NamesReady p keyboard used net
  pub begins : Begins used list
  pub whole : ending_of p.errors net ≡ None → used ≡ list

-- the choice of this turn, from 1, doesn't, and each one before it does
pub record IsPastAt (p : Program) (keyboard : List ℕ) (list : List Choice) (turn : ℕ) : Type 0 where
  pub before : List Choice
  pub choice : Choice
  pub others : List Choice
  pub is : before ++ choice ∷ others ≡ list
  pub at : turn ≡ length before + 1
  pub net : Net
  pub named : NamesReady p keyboard before net
  pub going : ending_of p.errors net ≡ None
  pub past : count_ready net ≤ choice.which

abbrev pub IsFirstPast : Program → (keyboard : List ℕ) → List Choice → Option ℕ → Type 0
IsFirstPast p keyboard list None = AllNameReady p keyboard list
IsFirstPast p keyboard list (Some turn) = IsPastAt p keyboard list turn

-- ---- what the code does; private contracts alone cite it

-- in the middle of a run: so many turns are taken
pub record NamingSoFar (p : Program) (keyboard : List ℕ) (turns : ℕ) (rest list : List Choice) (n : Tables) : Type 0 where
  pub given : List Choice
  pub count : turns ≡ length given
  pub so_far : given ++ rest ≡ list
  pub net : Net
  pub named : NamesReady p keyboard given net
  pub holds : Holds p keyboard n net
