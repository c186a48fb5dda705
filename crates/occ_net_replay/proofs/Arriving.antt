-- A run by turns keeps up with a run by steps: what is communicated.
use Rattle.std.proofs.Common.{◌≡◌, ◌∙◌, refl, sym, ap, subst, Bool, true, false, IsTrue, IsFalse, ℕ, zero, suc, ◌%◌, ◌⊎◌, inl, inr, List, [], ◌∷◌, Option, Some, None, length}
use Rattle.std.specs.Prelude.{slice_get, if◌then◌else◌}
use Rattle.std.proofs.Math.Nat.{mod-eq_of_lt}
use Rattle.std.proofs.lemmas.Option.{slice_get_within}
use mathlib.Core.Bool.{true≢false}
use Rattle.occ_term.specs.declared.message.Message.{Message}
use Rattle.occ_term.specs.Selecting.{Enabled, waits_for, is_ready_on, ready_among, chosen}
use Rattle.occ_term.specs.Steps.{Left, Status, Runs, Loops, Offers, Awaits, Chooses, Forks, IsHalted, FailsBy, HasEnded, status, is_running, is_looping}
use Rattle.occ_term.specs.System.{Process, Processes, no_processes, begun, fault_noted, GoesFrom, alone, joined, ChangeIn, GetsOn, input_gets, arm_gets, PassesBy, arm_skips}
use Rattle.occ_term.specs.TermTyping.{Declared}
use Rattle.occ_term.specs.Turns.{Steps, none, more, single_turn, Turn, stops, passes}
use Rattle.occ_term.specs.Values.{Store}
use Rattle.occ_net_replay.specs.Moments.{At}
use Rattle.occ_net_replay.proofs.Holding.{put}
use Rattle.occ_net_replay.proofs.Parts.{is_comm, PartTurn, within, to_stop, past, Move, Sets_none, no_kids}
use Rattle.occ_net_replay.proofs.Putting.{change_put}

-- ---- what stands at a communication

pub comm_stops : (st : Status) → IsTrue (is_comm st) → IsFalse (is_running st) × IsFalse (is_looping st) × (begun st ≡ no_processes) × (fault_noted st ≡ [])
comm_stops Runs h = absurd (true≢false (sym h))
comm_stops Loops h = absurd (true≢false (sym h))
comm_stops (Offers c m) h = (refl, refl, refl, refl)
comm_stops (Awaits c) h = (refl, refl, refl, refl)
comm_stops (Chooses pri arms) h = (refl, refl, refl, refl)
comm_stops (Forks bs) h = absurd (true≢false (sym h))
comm_stops IsHalted h = absurd (true≢false (sym h))
comm_stops (FailsBy e) h = absurd (true≢false (sym h))
comm_stops HasEnded h = absurd (true≢false (sym h))

loops_calm : (st : Status) → IsTrue (is_looping st) → IsFalse (is_comm st)
loops_calm Runs h = absurd (true≢false (sym h))
loops_calm Loops h = refl
loops_calm (Offers c m) h = absurd (true≢false (sym h))
loops_calm (Awaits c) h = absurd (true≢false (sym h))
loops_calm (Chooses pri arms) h = absurd (true≢false (sym h))
loops_calm (Forks bs) h = refl
loops_calm IsHalted h = refl
loops_calm (FailsBy e) h = refl
loops_calm HasEnded h = refl

pub from_calm : {own from : Left} {ps : Processes} → GoesFrom own ps from → IsFalse (is_comm (status own)) → IsFalse (is_comm (status from))
from_calm alone h = h
from_calm (joined e) h = refl

runs_on : {a b : Left} {s s' : Store} → Steps a s b s' → IsTrue (is_running (status a)) → IsTrue (is_running (status b))
runs_on none g = g
runs_on (more x g xs) h = runs_on xs g

last_runs : {a b : Left} {s s' : Store} → Steps a s b s' → (a ≡ b) ⊎ IsTrue (is_running (status b))
last_runs none = inl refl
last_runs (more x g xs) = inr (runs_on xs g)

-- a turn that has begun and stands at a communication is a turn
pub turn_of : {q : ℕ} {a b : Left} {s s' : Store} → PartTurn q a s b s' → IsFalse (is_comm (status a)) → IsTrue (is_comm (status b)) → Turn q a s b s'
turn_of {b = b} (to_stop xs x g) f h = let y = comm_stops (status b) g in stops (single_turn xs x y.0) (inr y.1)
turn_of (past {b = b} y g r) f h = passes y g (turn_of r (loops_calm (status b) g) h)
turn_of {a = a} {b = b} (within xs) f h = absurd (by (last_runs xs))
  where
    by : (a ≡ b) ⊎ IsTrue (is_running (status b)) → ⊥
    by (inl e) = true≢false (sym h ∙ sym (ap (λ z. is_comm (status z)) e) ∙ f)
    by (inr g) = true≢false (sym g ∙ (comm_stops (status b) h).0)

-- a change of a process that stands at a communication
pub change_of : (d : Declared) {R : Left → Left → Type 0} {n : ℕ} {rest : Left} {p p' : Process} {s s' : Store} → ((a b : Left) → R a b → IsTrue (is_comm (status a))) → Move (Sets_none d R) no_kids n rest p s p' s' → ChangeIn R n p p'
change_of d {R = R} {n = n} {rest = rest} {p = p} {p' = p'} f g = subst (ChangeIn R n p) (sym g.is) (by g.at g.goes g.by.0)
  where
    by : {own from : Left} {ps : Processes} → (x : At n own ps p) → GoesFrom own ps from → R from rest → ChangeIn R n p (put x rest no_processes)
    by x alone r = change_put R rest x r
    by x (joined e) r = absurd (true≢false (sym (f _ _ r)))

-- ---- the rule, where fewer offers stand

module _ (more_stand fewer : ℕ → Bool) (less : (c : ℕ) → IsTrue (fewer c) → IsTrue (more_stand c)) where
  ready_less : (x : Option ℕ) → IsTrue (is_ready_on fewer x) → IsTrue (is_ready_on more_stand x)
  ready_less None h = refl
  ready_less (Some c) h = less c h

  record Still (es : List Enabled) (i : ℕ) (e : Enabled) : Type 0 where
    pub place : ℕ
    pub is : slice_get (ready_among waits_for fewer es) place ≡ Some e
    pub first : i ≡ 0 → place ≡ 0

  still_there : (es : List Enabled) (i : ℕ) (e : Enabled) → IsTrue (is_ready_on fewer (waits_for e)) → slice_get (ready_among waits_for more_stand es) i ≡ Some e → Still es i e
  still_there [] i e h q = absurd cc
  still_there (x ∷ es) i e h q = by (is_ready_on more_stand (waits_for x)) refl (is_ready_on fewer (waits_for x)) refl i q (λ j r. still_there es j e h r)
    where
      by : (a : Bool) → is_ready_on more_stand (waits_for x) ≡ a → (b : Bool) → is_ready_on fewer (waits_for x) ≡ b → (i : ℕ) → slice_get (if a then x ∷ ready_among waits_for more_stand es else ready_among waits_for more_stand es) i ≡ Some e → ((j : ℕ) → slice_get (ready_among waits_for more_stand es) j ≡ Some e → Still es j e) → Still (x ∷ es) i e
      by false a true b i q f = absurd (true≢false (sym (ready_less (waits_for x) b) ∙ a))
      by false a false b i q f = let y = f i q in record { place = y.place; is = ap (λ z. slice_get (if z then x ∷ ready_among waits_for fewer es else ready_among waits_for fewer es) y.place) b ∙ y.is; first = y.first }
      by true a true b zero q f = record { place = 0; is = ap (λ z. slice_get (if z then x ∷ ready_among waits_for fewer es else ready_among waits_for fewer es) 0) b ∙ q; first = λ e. refl }
      by true a false b zero q f = let same : x ≡ e = cc in absurd (true≢false (sym h ∙ sym (ap (λ z. is_ready_on fewer (waits_for z)) same) ∙ b))
      by true a true b (suc i) q f = let y = f i q in record { place = suc y.place; is = ap (λ z. slice_get (if z then x ∷ ready_among waits_for fewer es else ready_among waits_for fewer es) (suc y.place)) b ∙ y.is; first = λ r. absurd cc }
      by true a false b (suc i) q f = let y = f i q in record { place = y.place; is = ap (λ z. slice_get (if z then x ∷ ready_among waits_for fewer es else ready_among waits_for fewer es) y.place) b ∙ y.is; first = λ r. absurd cc }

  record ChosenStill (pri : Bool) (es : List Enabled) (e : Enabled) : Type 0 where
    pub pick : ℕ
    pub is : chosen pri pick fewer es ≡ Some e

  chosen_still : (pri : Bool) (pick : ℕ) (es : List Enabled) (e : Enabled) → IsTrue (is_ready_on fewer (waits_for e)) → chosen pri pick more_stand es ≡ Some e → ChosenStill pri es e
  chosen_still true pick es e h q = let y = still_there es 0 e h q in record { pick = 0; is = ap (slice_get (ready_among waits_for fewer es)) (sym (y.first refl)) ∙ y.is }
  chosen_still false pick es e h q =
      let y = still_there es (pick % length (ready_among waits_for more_stand es)) e h q in
      record { pick = y.place; is = ap (slice_get (ready_among waits_for fewer es)) (mod-eq_of_lt (slice_get_within (ready_among waits_for fewer es) y.place e y.is)) ∙ y.is }

  pub gets_still : {c : ℕ} {m : Message} {a b : Left} → IsTrue (fewer c) → GetsOn more_stand c m a b → GetsOn fewer c m a b
  gets_still h input_gets = input_gets
  gets_still h (arm_gets {pri = pri} {arms = es} pick e) = let y = chosen_still pri pick es _ h e in arm_gets y.pick y.is

  pub skips_still : {a b : Left} → PassesBy more_stand a b → PassesBy fewer a b
  skips_still (arm_skips {pri = pri} {arms = es} pick e) = let y = chosen_still pri pick es _ refl e in arm_skips y.pick y.is
