-- What the tokens of a run know.
-- Manual: nothing; this is (own).
use Rattle.std.specs.Prelude.{Bool, List, None, Option, Some, [], false, if◌then◌else◌, nat_eq, true, ℕ, ⊤, ◌∷◌, ◌≡◌, ◌⊎◌}
use mathlib.Core.Option.{some}
use lib.ListN.{get_elem?}
use Rattle.occ_machine.specs.declared.task.Task.{Task}
use Rattle.occ_machine.specs.declared.task.Wait.TheVariants.{Done}
use Rattle.occ_run.specs.declared.tokens.Known.{Known}

abbrev pub no_task : Task
no_task = record { number = 0; turns = 0; pc = 0; frame = record { cells = []; values = []; left = [] }; wait = Done }

-- it is one of these
abbrev pub Among : Task → List Task → Type 0
Among t [] = ⊥
Among t (x ∷ xs) = (x ≡ t) ⊎ Among t xs

-- each of these is of another process than the one with that number
abbrev pub AreOthers : ℕ → List Task → Type 0
AreOthers n [] = ⊤
AreOthers n (x ∷ xs) = (x.number ≡ n → ⊥) × AreOthers n xs

-- without those of the process with that number
abbrev pub without : ℕ → List Task → List Task
without n [] = []
without n (x ∷ xs) = if nat_eq x.number n then without n xs else x ∷ without n xs

-- ---- tokens

abbrev pub keeper : List Task → Bool → Known
keeper out over = record { keeps = true; out = out; over = over; has = None; ended = false }

-- at the start
abbrev pub opening : Known
opening = keeper [] false

abbrev pub IsKeeper : Known → Type 0
IsKeeper v = v ≡ keeper v.out v.over

-- when one more turn is out
abbrev pub keeper_with : Task → Known → Known
keeper_with t v = keeper (t ∷ v.out) v.over

-- of one turn that is out
abbrev pub holder : Task → Known
holder t = record { keeps = false; out = []; over = false; has = Some t; ended = false }

-- of the end
abbrev pub teller : Known
teller = record { keeps = false; out = []; over = false; has = None; ended = true }

abbrev pub nobody : Known
nobody = record { keeps = false; out = []; over = false; has = None; ended = false }

abbrev pub with_turn : Task → Known → Known
with_turn t v = record v { out = t ∷ v.out }

abbrev pub at_end : Known → Known
at_end v = record v { over = true }

-- with another's token to compare
abbrev pub shown_beside : Known → Known → Known
shown_beside v w = record v { has = w.has; ended = w.ended }

abbrev pub left_out : Option Task → List Task → List Task
left_out None ts = ts
left_out (Some t) ts = without t.number ts

-- ---- the rule

-- One token keeps. Each turn that a token has is among those that are out, and the run is over where one has seen that.
pub record Fits (seat : ℕ) (out : List Task) (over : Bool) (by : ℕ) (v : Known) : Type 0 where
  pub keeps : v.keeps ≡ true → (by ≡ seat) × (v.out ≡ out) × (v.over ≡ over)
  pub has : (t : Task) → v.has ≡ Some t → Among t out
  pub ended : v.ended ≡ true → over ≡ true

-- no two tokens have turns of one process
abbrev pub HaveTurnsApart : List Known → Type 0
HaveTurnsApart views = (i j : ℕ) (v w : Known) (t u : Task) → get_elem? views i ≡ some v → get_elem? views j ≡ some w → v.has ≡ Some t → w.has ≡ Some u → t.number ≡ u.number → i ≡ j

pub record KeptTokens (words : List ℕ) (views : List Known) : Type 0 where
  pub seat : ℕ
  pub out : List Task
  pub over : Bool
  pub each : (by : ℕ) (v : Known) → get_elem? views by ≡ some v → Fits seat out over by v
  pub apart : HaveTurnsApart views

-- The keeper compares what a token says, and keeps what is left.
pub record Checked (v : Known) (before after : List ℕ) (w : Known) : Type 0 where
  pub is : w ≡ keeper (left_out v.has v.out) v.over
  pub had : (t : Task) → v.has ≡ Some t → Among t v.out
  pub saw : v.ended ≡ true → v.over ≡ true
