-- What is known of a state's processes, and steps of them.
use Rattle.std.proofs.Common.{◌≡◌, ◌∙◌, refl, sym, ap, subst, Bool, IsTrue, IsFalse, ℕ, ◌+◌, ◌≤◌, ◌⊎◌, inl, inr, List, Some, arith}
use Rattle.std.specs.Prelude.{slice_get}
use mathlib.Core.Bool.{true≢false}
use Rattle.occ_term.specs.Processes.{Numbered, numbered}
use Rattle.occ_term.specs.Runs.{Meeting, by_message, by_skip}
use Rattle.occ_term.specs.Steps.{Do, Forking, Context, Left, left, Status, Runs, status, Step}
use Rattle.occ_term.specs.System.{Process, process, Processes, no_processes, and_process, AllEnded, System, system, begun, ChangeIn, GivesOn, offer_ends, GetsOn, input_gets, arm_gets, PassesBy, arm_skips, process_sends, keyboard_sends, process_receives, screen_receives, error_receives, meets, passes_skip}
use Rattle.occ_term.specs.StepRuns.{StepIn, step_here, join_here, step_below, StepAmong, step_first, step_later}
use Rattle.occ_term.specs.TermTyping.{Declared}
use Rattle.occ_term.specs.Terms.{Term, Skip, Branches}
use Rattle.occ_term.specs.Uses.{uses_of}
use Rattle.occ_term.specs.Values.{Store}
use Rattle.occ_machine.specs.Compiled.{Program}
use Rattle.occ_net_replay.specs.Moments.{At, here, below, Among, first, later}
use Rattle.occ_net_replay.specs.Replay.{Tasks}
use Rattle.occ_net_replay.proofs.Holding.{put, put_among, Own, AllHold, branched}
use Rattle.occ_net_replay.proofs.Parts.{Facts, is_comm}
use Rattle.occ_net_replay.proofs.Placed.{size}
use Rattle.occ_net_replay.proofs.Putting.{InAmong, mine, within_all}
use Rattle.occ_net_replay.proofs.States.{State}
use Rattle.occ_net_replay.proofs.Still.{changes_at}
use Rattle.occ_net_replay.proofs.Trees.{beside_apart, below_one}

-- ---- what a state tells of its processes

module _ (d : Declared) (p : Program) (procs : List Numbered) (k : ℕ) (tasks : Tasks) (proc : Process) (s : Store) (st : State d p procs k tasks proc s) (deaf : (n : ℕ) (own : Left) (ps : Processes) (t : Term) → At n own ps proc → slice_get procs n ≡ Some (numbered n t) → (c : ℕ) → IsTrue ((uses_of t).ins c) → (c ≡ 1 → ⊥) × (c ≡ 2 → ⊥)) where
  inside_never : (n : ℕ) (own : Left) (ps : Processes) → (o : Own d p procs k s tasks n own ps) → AllHold d p procs k s tasks ps → InAmong n ps → ⊥
  inside_never n own ps o all w =
      below_one d p procs k s tasks ⊥ n own ps w.at o (branched d p procs o.stands)
      (λ bs z b. let r = within_all d p procs k s tasks w.at bs (n + 1) (n + 1 + size o.belongs.term) all z b o.belongs.term o.belongs.entry in let f = r.from in omega (arith, f))

  pub facts_of : Facts d procs proc s
  facts_of = record {
    fit = λ n own ps x. let o = (mine d p procs k s tasks x st.holds).0 in record { term = o.belongs.term; entry = o.belongs.entry; typed = o.typed; uses = o.uses; deaf = deaf n own ps o.belongs.term x o.belongs.entry };
    apart = λ n m t u e f b. (beside_apart d p procs k s tasks n m t u e f b.x b.y b.apart st.holds).cells;
    typed_store = st.typed_store;
    beside_once = λ n b. let o = (mine d p procs k s tasks b.x st.holds).0 in by n o.belongs.term (beside_apart d p procs k s tasks n n o.belongs.term o.belongs.term o.belongs.entry o.belongs.entry b.x b.y b.apart st.holds).order;
    inside_once = λ n own ps x w. let h = mine d p procs k s tasks x st.holds in inside_never n own ps h.0 h.1 w;
  }
    where
      by : (n : ℕ) (t : Term) → (n + 1 + size t ≤ n) ⊎ (n + 1 + size t ≤ n) → ⊥
      by n t (inl e) = omega (arith, e)
      by n t (inr e) = omega (arith, e)

-- ---- a step is at a place

pub data SteppedAt (n : ℕ) (p : Process) (s : Store) (p' : Process) (s' : Store) (st : Status) : Type 0 where
  by_step : {own rest : Left} → (x : At n own no_processes p) → Step own s rest s' → p' ≡ put x rest (begun (status rest)) → st ≡ status rest → SteppedAt n p s p' s' st
  by_join : {bs : Branches} {k : List Context} {ps : Processes} → (x : At n (left (Forking bs) k) ps p) → AllEnded ps → p' ≡ put x (left (Do Skip) k) no_processes → s' ≡ s → st ≡ Runs → SteppedAt n p s p' s' st

data SteppedAmong (n : ℕ) (qs : Processes) (s : Store) (qs' : Processes) (s' : Store) (st : Status) : Type 0 where
  among_step : {own rest : Left} → (x : Among n own no_processes qs) → Step own s rest s' → qs' ≡ put_among x rest (begun (status rest)) → st ≡ status rest → SteppedAmong n qs s qs' s' st
  among_join : {bs : Branches} {k : List Context} {ps : Processes} → (x : Among n (left (Forking bs) k) ps qs) → AllEnded ps → qs' ≡ put_among x (left (Do Skip) k) no_processes → s' ≡ s → st ≡ Runs → SteppedAmong n qs s qs' s' st

step_under : {n m : ℕ} {a : Left} {qs qs' : Processes} {s s' : Store} {st : Status} → SteppedAmong n qs s qs' s' st → SteppedAt n (process m a qs) s (process m a qs') s' st
step_under {m = m} {a = a} (among_step x y e f) = by_step (below x) y (ap (process m a) e) f
step_under {m = m} {a = a} (among_join x y e f g) = by_join (below x) y (ap (process m a) e) f g

step_in_first : {n : ℕ} {q q' : Process} {qs : Processes} {s s' : Store} {st : Status} → SteppedAt n q s q' s' st → SteppedAmong n (and_process q qs) s (and_process q' qs) s' st
step_in_first {qs = qs} (by_step x y e f) = among_step (first x) y (ap (λ z. and_process z qs) e) f
step_in_first {qs = qs} (by_join x y e f g) = among_join (first x) y (ap (λ z. and_process z qs) e) f g

step_in_later : {n : ℕ} {q : Process} {qs qs' : Processes} {s s' : Store} {st : Status} → SteppedAmong n qs s qs' s' st → SteppedAmong n (and_process q qs) s (and_process q qs') s' st
step_in_later {q = q} (among_step x y e f) = among_step (later x) y (ap (and_process q) e) f
step_in_later {q = q} (among_join x y e f g) = among_join (later x) y (ap (and_process q) e) f g

mutual
  pub stepped_at : {n : ℕ} {p p' : Process} {s s' : Store} {st : Status} → StepIn n p s p' s' st → SteppedAt n p s p' s' st
  stepped_at (step_here x) = by_step here x refl refl
  stepped_at (join_here e) = by_join here e refl refl refl
  stepped_at (step_below x) = step_under (stepped_among x)

  stepped_among : {n : ℕ} {qs qs' : Processes} {s s' : Store} {st : Status} → StepAmong n qs s qs' s' st → SteppedAmong n qs s qs' s' st
  stepped_among (step_first x) = step_in_first (stepped_at x)
  stepped_among (step_later x) = step_in_later (stepped_among x)

-- ---- nobody stands at a communication

abbrev pub Idle : Process → Type 0
Idle p = (n : ℕ) (own : Left) (ps : Processes) → At n own ps p → IsFalse (is_comm (status own))

pub gives_comm : {c : ℕ} {m : _} {a b : Left} → GivesOn c m a b → IsTrue (is_comm (status a))
gives_comm offer_ends = refl

pub gets_comm : {standing : ℕ → Bool} {c : ℕ} {m : _} {a b : Left} → GetsOn standing c m a b → IsTrue (is_comm (status a))
gets_comm input_gets = refl
gets_comm (arm_gets pick e) = refl

pub skips_comm : {standing : ℕ → Bool} {a b : Left} → PassesBy standing a b → IsTrue (is_comm (status a))
skips_comm (arm_skips pick e) = refl

no_change : {R : Left → Left → Type 0} {n : ℕ} {p p' : Process} → Idle p → ((a b : Left) → R a b → IsTrue (is_comm (status a))) → ChangeIn R n p p' → ⊥
no_change idle f x = let y = changes_at x in true≢false (sym (f y.own y.next y.rel) ∙ idle _ y.own no_processes y.at)

pub nobody_meets : {n : ℕ} {a : System} → Meeting n a → (kb : List ℕ) (p : Process) (s : Store) (noted : _) → a ≡ system kb p s noted → Idle p → ⊥
nobody_meets (by_message part (meets (process_sends {p = q} f) r)) kb p s noted e idle = let same : q ≡ p = cc in no_change (subst Idle (sym same) idle) (λ x y r. gives_comm r) f
nobody_meets (by_message part (meets (keyboard_sends {p = q} z m) (process_receives g))) kb p s noted e idle = let same : q ≡ p = cc in no_change (subst Idle (sym same) idle) (λ x y r. gets_comm r) g
nobody_meets (by_message part (meets (keyboard_sends z m) (screen_receives g))) kb p s noted e idle = let r = sym z ∙ g in absurd cc
nobody_meets (by_message part (meets (keyboard_sends z m) (error_receives g))) kb p s noted e idle = let r = sym z ∙ g in absurd cc
nobody_meets (by_skip (passes_skip {p = q} f)) kb p s noted e idle = let same : q ≡ p = cc in no_change (subst Idle (sym same) idle) (λ x y r. skips_comm r) f
