-- Whether a task waits for branches that are all done, of which a process is one.
use Rattle.std.proofs.Common.{◌≡◌, ◌∙◌, refl, sym, ap, subst, Bool, true, false, IsTrue, ℕ, zero, suc, ◌⊎◌, inl, inr, List, [], ◌∷◌, Option, Some, None}
use Rattle.std.specs.Prelude.{slice_get, ◌&&◌}
use Rattle.std.specs.Option.{option_map_or}
use Rattle.std.proofs.lemmas.Bool.{and_from, and_parts}
use mathlib.Core.Bool.{true≢false}
use Rattle.occ_term.specs.Frames.{is_held}
use Rattle.occ_machine.specs.declared.task.Task.{Task}
use Rattle.occ_machine.specs.declared.task.Wait.{Wait}
use Rattle.occ_machine.specs.declared.task.Wait.TheVariants as W
use Rattle.occ_net_replay.specs.Replay.{Tasks, HasTask, AreDone, ended}

record Has (ask : Task → Bool) (ts : Tasks) : Type 0 where
  pub number : ℕ
  pub task : Task
  pub there : HasTask ts number task
  pub is : IsTrue (ask task)

behind : {ask : Task → Bool} {ts : Tasks} → (x : Option Task) → Has ask ts → Has ask (x ∷ ts)
behind x h = record { number = suc h.number; task = h.task; there = h.there; is = h.is }

-- a task of which something is so, or it is so of none
find : (ask : Task → Bool) (ts : Tasks) → Has ask ts ⊎ ((i : ℕ) (t : Task) → HasTask ts i t → ask t ≡ false)
find ask [] = inr none
  where
    none : (i : ℕ) (t : Task) → HasTask [] i t → ask t ≡ false
    none i t h = absurd cc
find ask (None ∷ ts) = by (find ask ts)
  where
    none : ((i : ℕ) (t : Task) → HasTask ts i t → ask t ≡ false) → (i : ℕ) (t : Task) → HasTask (None ∷ ts) i t → ask t ≡ false
    none g zero t h = absurd cc
    none g (suc i) t h = g i t h

    by : Has ask ts ⊎ ((i : ℕ) (t : Task) → HasTask ts i t → ask t ≡ false) → Has ask (None ∷ ts) ⊎ ((i : ℕ) (t : Task) → HasTask (None ∷ ts) i t → ask t ≡ false)
    by (inl x) = inl (behind None x)
    by (inr g) = inr (none g)
find ask (Some u ∷ ts) = by (ask u) refl (find ask ts)
  where
    none : ask u ≡ false → ((i : ℕ) (t : Task) → HasTask ts i t → ask t ≡ false) → (i : ℕ) (t : Task) → HasTask (Some u ∷ ts) i t → ask t ≡ false
    none e g zero t h = let same : u ≡ t = cc in subst (λ z. ask z ≡ false) same e
    none e g (suc i) t h = g i t h

    by : (b : Bool) → ask u ≡ b → Has ask ts ⊎ ((i : ℕ) (t : Task) → HasTask ts i t → ask t ≡ false) → Has ask (Some u ∷ ts) ⊎ ((i : ℕ) (t : Task) → HasTask (Some u ∷ ts) i t → ask t ≡ false)
    by true e r = inl (record { number = 0; task = u; there = refl; is = e })
    by false e (inl x) = inl (behind (Some u) x)
    by false e (inr g) = inr (none e g)

abbrev done_all : Tasks → List ℕ → Bool
done_all tasks [] = true
done_all tasks (n ∷ ns) = option_map_or ended (slice_get tasks n) false && done_all tasks ns

all_are : (tasks : Tasks) (ns : List ℕ) → IsTrue (done_all tasks ns) → AreDone tasks ns
all_are tasks [] h = tt
all_are tasks (n ∷ ns) h = let y = and_parts (option_map_or ended (slice_get tasks n) false) (done_all tasks ns) h in (y.0, all_are tasks ns y.1)

are_all : (tasks : Tasks) (ns : List ℕ) → AreDone tasks ns → IsTrue (done_all tasks ns)
are_all tasks [] h = refl
are_all tasks (n ∷ ns) h = and_from (option_map_or ended (slice_get tasks n) false) (done_all tasks ns) h.0 (are_all tasks ns h.1)

abbrev may_join : Tasks → ℕ → Wait → Bool
may_join tasks n W.Ready = false
may_join tasks n (W.Took arm is m) = false
may_join tasks n (W.Offers c m) = false
may_join tasks n (W.Awaits c) = false
may_join tasks n (W.Chooses pri arms) = false
may_join tasks n (W.Joins ns) = is_held ns n && done_all tasks ns
may_join tasks n W.Halted = false
may_join tasks n W.Done = false
may_join tasks n (W.Faulted e) = false

pub record Joinable (tasks : Tasks) (n : ℕ) : Type 0 where
  pub number : ℕ
  pub task : Task
  pub branches : List ℕ
  pub there : HasTask tasks number task
  pub waits : task.wait ≡ W.Joins branches
  pub among : IsTrue (is_held branches n)
  pub done : AreDone tasks branches

abbrev pub NoneJoins : Tasks → ℕ → Type 0
NoneJoins tasks n = (m : ℕ) (t : Task) (ns : List ℕ) → HasTask tasks m t → t.wait ≡ W.Joins ns → IsTrue (is_held ns n) → AreDone tasks ns → ⊥

pub joinable : (tasks : Tasks) (n : ℕ) → Joinable tasks n ⊎ NoneJoins tasks n
joinable tasks n = by (find (λ t. may_join tasks n t.wait) tasks)
  where
    at : (m : ℕ) (t : Task) (w : Wait) → t.wait ≡ w → HasTask tasks m t → IsTrue (may_join tasks n w) → Joinable tasks n
    at m t W.Ready e h g = absurd (true≢false (sym g))
    at m t (W.Took arm is x) e h g = absurd (true≢false (sym g))
    at m t (W.Offers c x) e h g = absurd (true≢false (sym g))
    at m t (W.Awaits c) e h g = absurd (true≢false (sym g))
    at m t (W.Chooses pri arms) e h g = absurd (true≢false (sym g))
    at m t (W.Joins ns) e h g = let y = and_parts (is_held ns n) (done_all tasks ns) g in record { number = m; task = t; branches = ns; there = h; waits = e; among = y.0; done = all_are tasks ns y.1 }
    at m t W.Halted e h g = absurd (true≢false (sym g))
    at m t W.Done e h g = absurd (true≢false (sym g))
    at m t (W.Faulted x) e h g = absurd (true≢false (sym g))

    none : ((i : ℕ) (t : Task) → HasTask tasks i t → may_join tasks n t.wait ≡ false) → NoneJoins tasks n
    none g m t ns h w a e = true≢false (sym (and_from (is_held ns n) (done_all tasks ns) a (are_all tasks ns e)) ∙ sym (ap (may_join tasks n) w) ∙ g m t h)

    by : Has (λ t. may_join tasks n t.wait) tasks ⊎ ((i : ℕ) (t : Task) → HasTask tasks i t → may_join tasks n t.wait ≡ false) → Joinable tasks n ⊎ NoneJoins tasks n
    by (inl x) = inl (at x.number x.task x.task.wait refl x.there x.is)
    by (inr g) = inr (none g)
