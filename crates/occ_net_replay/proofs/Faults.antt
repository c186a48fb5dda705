-- The faults of a network, and who takes part in a communication.
use Rattle.std.proofs.Common.{◌≡◌, ◌∙◌, refl, sym, ap, subst, Bool, false, IsTrue, IsFalse, ℕ, ◌⊎◌, inl, inr, List, [], Some}
use Rattle.std.specs.Prelude.{slice_set}
use mathlib.Core.Bool.{true≢false}
use Rattle.occ_term.specs.declared.message.Message.{Message}
use Rattle.occ_term.specs.Going.{IsGoing}
use Rattle.occ_term.specs.Processes.{Numbered}
use Rattle.occ_term.specs.Runs.{TakesPart}
use Rattle.occ_term.specs.Steps.{Doing, Do, Passing, Again, Offering, Awaiting, Choosing, Taking, Forking, Halted, Faulted, Done, Left, status, status_of}
use Rattle.occ_term.specs.declared.communication.Communication.{Communication}
use Rattle.occ_term.specs.declared.communication.End.{End}
use Rattle.occ_term.specs.declared.communication.End.TheVariants.{Process as OfProcess}
use Rattle.occ_term.specs.System.{Processes, fault_noted}
use Rattle.occ_term.specs.TermTyping.{Declared}
use Rattle.occ_term.specs.Uses.{Numbers}
use Rattle.occ_machine.specs.Compiled.{Program}
use Rattle.occ_machine.specs.Machine.{Body}
use Rattle.occ_machine.specs.declared.task.Task.{Task}
use Rattle.occ_machine.specs.declared.task.Wait.{Wait}
use Rattle.occ_machine.specs.declared.task.Wait.TheVariants as W
use Rattle.occ_net_replay.specs.Replay.{Net, HasTask, may_go, made_ready, noted_at, task_gives, keyboard_gives, Gets, task_gets, arm_gets, screen_gets, error_gets, PassesOn, joined}
use Rattle.occ_net_replay.proofs.Holding.{Stands, may_turn, may_join, offers, awaits, chooses, waits, is_halted, has_failed, has_ended}
use Rattle.occ_net_replay.proofs.Quiet.{is_calm}
use Rattle.occ_net_replay.proofs.Tables.{set_back, task_once}

-- ---- what a turn notes

pub ready_no_fault : (w : Wait) → IsTrue (may_go w) → noted_at w ≡ []
ready_no_fault W.Ready h = refl
ready_no_fault (W.Took arm is m) h = refl
ready_no_fault (W.Offers c m) h = refl
ready_no_fault (W.Awaits c) h = refl
ready_no_fault (W.Chooses pri arms) h = refl
ready_no_fault (W.Joins ns) h = refl
ready_no_fault W.Halted h = refl
ready_no_fault W.Done h = refl
ready_no_fault (W.Faulted e) h = absurd (true≢false (sym h))

pub uncalm_no_fault : (w : Wait) → IsFalse (is_calm w) → noted_at w ≡ []
uncalm_no_fault W.Ready h = refl
uncalm_no_fault (W.Took arm is m) h = refl
uncalm_no_fault (W.Offers c m) h = refl
uncalm_no_fault (W.Awaits c) h = refl
uncalm_no_fault (W.Chooses pri arms) h = refl
uncalm_no_fault (W.Joins ns) h = refl
uncalm_no_fault W.Halted h = refl
uncalm_no_fault W.Done h = refl
uncalm_no_fault (W.Faulted e) h = absurd (true≢false h)

-- ---- who takes part

number_is : {n z : ℕ} → OfProcess z ≡ OfProcess n → z ≡ n
number_is e = cc

module _ (a : Net) (n : ℕ) (t : Task) (there : HasTask a.tasks n t) where
  uncalm : (u : Task) (w : Wait) → HasTask a.tasks n u → u.wait ≡ w → is_calm w ≡ false → IsFalse (is_calm t.wait)
  uncalm u w h e f = let same : t ≡ u = task_once a.tasks n there h in ap (λ z. is_calm z.wait) same ∙ ap is_calm e ∙ f

  later_uncalm : (z : ℕ) (x u : Task) (w : Wait) → HasTask a.tasks z x → HasTask (slice_set a.tasks z (Some (made_ready x))) n u → u.wait ≡ w → is_calm w ≡ false → IsFalse (is_calm t.wait)
  later_uncalm z x u w hz h e f = by (set_back a.tasks z n hz h)
    where
      by : ((n ≡ z) × (u ≡ made_ready x)) ⊎ ((n ≡ z → ⊥) × HasTask a.tasks n u) → IsFalse (is_calm t.wait)
      by (inl q) = let r : W.Ready ≡ w = sym (ap (λ y. y.wait) q.1) ∙ e in absurd (true≢false (ap is_calm r ∙ f))
      by (inr q) = uncalm u w q.1 e f

  gets_part : {pick c : ℕ} {m : Message} {o : ℕ → Bool} {y : End} {b e : Net} → (z : ℕ) (x : Task) → HasTask a.tasks z x → b.tasks ≡ slice_set a.tasks z (Some (made_ready x)) → Gets pick o c m y b e → y ≡ OfProcess n → IsFalse (is_calm t.wait)
  gets_part z x hz q (task_gets {n = w} {t = u} h i) e = later_uncalm z x u _ hz (subst (λ r. HasTask (slice_set a.tasks z (Some (made_ready x))) r u) (number_is e) (subst (λ r. HasTask r w u) q h)) i refl
  gets_part z x hz q (arm_gets {n = w} {t = u} h i g j) e = later_uncalm z x u _ hz (subst (λ r. HasTask (slice_set a.tasks z (Some (made_ready x))) r u) (number_is e) (subst (λ r. HasTask r w u) q h)) i refl
  gets_part z x hz q (screen_gets i) e = absurd cc
  gets_part z x hz q (error_gets i) e = absurd cc

  gets_alone : {pick c : ℕ} {m : Message} {o : ℕ → Bool} {y : End} {b e : Net} → b.tasks ≡ a.tasks → Gets pick o c m y b e → y ≡ OfProcess n → IsFalse (is_calm t.wait)
  gets_alone q (task_gets {n = w} {t = u} h i) e = uncalm u _ (subst (λ r. HasTask a.tasks r u) (number_is e) (subst (λ r. HasTask r w u) q h)) i refl
  gets_alone q (arm_gets {n = w} {t = u} h i g j) e = uncalm u _ (subst (λ r. HasTask a.tasks r u) (number_is e) (subst (λ r. HasTask r w u) q h)) i refl
  gets_alone q (screen_gets i) e = absurd cc
  gets_alone q (error_gets i) e = absurd cc

  -- a process that takes part waits for it
  pub part_waits : {pick : ℕ} {x : Communication} {b : Net} → PassesOn pick a x b → TakesPart n x → IsFalse (is_calm t.wait)
  part_waits (joined (task_gives {n = z} {t = u} h w) g) (inl e) = uncalm u _ (subst (λ r. HasTask a.tasks r u) (number_is e) h) w refl
  part_waits (joined (keyboard_gives q r f) g) (inl e) = absurd cc
  part_waits (joined (task_gives {n = z} {t = u} h w) g) (inr e) = gets_part z u h refl g e
  part_waits (joined (keyboard_gives q r f) g) (inr e) = gets_alone refl g e

-- ---- what the system notes

going_noted : (x : Doing) → IsGoing x → fault_noted (status_of x) ≡ []
going_noted (Do t) h = refl
going_noted (Passing l) h = refl
going_noted (Again l) h = refl
going_noted (Offering c m) h = refl
going_noted (Awaiting c list) h = refl
going_noted (Choosing pri arms) h = refl
going_noted (Taking xs what) h = refl
going_noted (Forking bs) h = refl
going_noted Halted h = refl
going_noted (Faulted e) h = absurd (true≢false (sym h))
going_noted Done h = refl

pub stands_noted : (d : Declared) (p : Program) (procs : List Numbered) (k : ℕ) (body : Body) (t : Task) (own : Left) (ps : Processes) (but : Numbers) → Stands d p procs k body t own ps but → fault_noted (status own) ≡ noted_at t.wait
stands_noted d p procs k body t own ps but (may_turn {x = x} g h y a) = going_noted x h ∙ sym (ready_no_fault t.wait g)
stands_noted d p procs k body t own ps but (may_join g m e a) = sym (ready_no_fault t.wait (ap may_go g))
stands_noted d p procs k body t own ps but (offers w a) = sym (ap noted_at w)
stands_noted d p procs k body t own ps but (awaits w a) = sym (ap noted_at w)
stands_noted d p procs k body t own ps but (chooses w a) = sym (ap noted_at w)
stands_noted d p procs k body t own ps but (waits w m e a) = sym (ap noted_at w)
stands_noted d p procs k body t own ps but (is_halted w) = sym (ap noted_at w)
stands_noted d p procs k body t own ps but (has_failed w) = sym (ap noted_at w)
stands_noted d p procs k body t own ps but (has_ended w) = sym (ap noted_at w)
