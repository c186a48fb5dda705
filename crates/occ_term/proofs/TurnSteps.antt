-- Each run by turns is a run by single steps.
use Rattle.std.proofs.Common.{◌≡◌, IsTrue, ℕ, List, [], ◌∷◌, ◌++◌, Some, None, refl, sym, ap, ◌∙◌, subst, append-nil}
use Rattle.occ_term.specs.declared.fault.Errors.{Errors}
use Rattle.occ_term.specs.Messages.{Fault}
use Rattle.occ_term.specs.Values.{Store}
use Rattle.occ_term.specs.Steps.{Left, Status, Runs, Loops, Offers, Awaits, Chooses, Forks, IsHalted, FailsBy, HasEnded, status, is_running, is_looping}
use Rattle.occ_term.specs.Turns.{Steps, none, more, SingleTurn, single_turn, Turn, stops, passes}
use Rattle.occ_term.specs.System.{Process, process, Processes, no_processes, and_process, System, system, MayGo, begun, fault_noted, alone, joined, TurnIn, turn_here, turn_below, TurnAmong, turn_first, turn_later, system_turn, Communication}
use Rattle.occ_term.specs.Runs.{event, meets_none, meets_one, meets_skip, no_turn, goes}
use Rattle.occ_term.specs.StepRuns.{StepIn, step_here, join_here, step_below, StepAmong, step_first, step_later, process_step, meeting, skipping, StepRun, no_step, steps, TurnsAreSteps}

-- one or more changes in a row, each but the last to what notes no fault
data Chain {A : Type 0} (R : A → Store → A → Store → Status → Type 0) : A → Store → A → Store → Status → Type 0 where
  last : {a b : A} {s s' : Store} {st : Status} → R a s b s' st → Chain R a s b s' st
  first : {a b c : A} {s s' s'' : Store} {st st' : Status} → R a s b s' st → fault_noted st ≡ [] → Chain R b s' c s'' st' → Chain R a s c s'' st'

joined_to : {A : Type 0} {R : A → Store → A → Store → Status → Type 0} {a b c : A} {s s' s'' : Store} {st st' : Status} → Chain R a s b s' st → fault_noted st ≡ [] → Chain R b s' c s'' st' → Chain R a s c s'' st'
joined_to (last x) q r = first x q r
joined_to (first x p rest) q r = first x p (joined_to rest q r)

in_place : {A B : Type 0} {R : A → Store → A → Store → Status → Type 0} {Q : B → Store → B → Store → Status → Type 0} {a b : A} {s s' : Store} {st : Status} (f : A → B) → ((x y : A) (u v : Store) (w : Status) → R x u y v w → Q (f x) u (f y) v w) → Chain R a s b s' st → Chain Q (f a) s (f b) s' st
in_place f g (last x) = last (g _ _ _ _ _ x)
in_place f g (first x q rest) = first (g _ _ _ _ _ x) q (in_place f g rest)

runs_is : (st : Status) → IsTrue (is_running st) → st ≡ Runs
runs_is Runs h = refl
runs_is Loops h = cc
runs_is (Offers c m) h = cc
runs_is (Awaits c) h = cc
runs_is (Chooses pri arms) h = cc
runs_is (Forks bs) h = cc
runs_is IsHalted h = cc
runs_is (FailsBy e) h = cc
runs_is HasEnded h = cc

loops_is : (st : Status) → IsTrue (is_looping st) → st ≡ Loops
loops_is Runs h = cc
loops_is Loops h = refl
loops_is (Offers c m) h = cc
loops_is (Awaits c) h = cc
loops_is (Chooses pri arms) h = cc
loops_is (Forks bs) h = cc
loops_is IsHalted h = cc
loops_is (FailsBy e) h = cc
loops_is HasEnded h = cc

-- what the process with that number does, alone
abbrev Alone : ℕ → Left → Store → Left → Store → Type 0
Alone n a s b s' = Chain (StepIn n) (process n a no_processes) s (process n b (begun (status b))) s' (status b)

steps_before : {a b : Left} {p : Process} {s s' s'' : Store} {st : Status} (n : ℕ) → Steps a s b s' → Chain (StepIn n) (process n b no_processes) s' p s'' st → Chain (StepIn n) (process n a no_processes) s p s'' st
steps_before n none r = r
steps_before {s = s} n (more {a = a} {b = b} {s' = s'} x h rest) r =
    let there : StepIn n (process n a no_processes) s (process n b no_processes) s' Runs = subst (λ st. StepIn n (process n a no_processes) s (process n b (begun st)) s' st) (runs_is (status b) h) (step_here x) in
    first there refl (steps_before n rest r)

single_is : {a b : Left} {s s' : Store} (n : ℕ) → SingleTurn a s b s' → Alone n a s b s'
single_is n (single_turn xs x h) = steps_before n xs (last (step_here x))

turn_is : {q : ℕ} {a b : Left} {s s' : Store} (n : ℕ) → Turn q a s b s' → Alone n a s b s'
turn_is n (stops t h) = single_is n t
turn_is {s = s} n (passes {a = a} {b = b} {s' = s'} t h rest) =
    let there : Chain (StepIn n) (process n a no_processes) s (process n b no_processes) s' Loops = subst (λ st. Chain (StepIn n) (process n a no_processes) s (process n b (begun st)) s' st) (loops_is (status b) h) (single_is n t) in
    joined_to there refl (turn_is n rest)

mutual
  turn_in : {q n : ℕ} {p p' : Process} {s s' : Store} {st : Status} → TurnIn q n p s p' s' st → Chain (StepIn n) p s p' s' st
  turn_in {n = n} (turn_here alone t) = turn_is n t
  turn_in {n = n} (turn_here (joined h) t) = first (join_here h) refl (turn_is n t)
  turn_in (turn_below {m = m} {a = a} x) = in_place (process m a) (λ x y u v w. step_below) (turn_among x)

  turn_among : {q n : ℕ} {ps ps' : Processes} {s s' : Store} {st : Status} → TurnAmong q n ps s ps' s' st → Chain (StepAmong n) ps s ps' s' st
  turn_among (turn_first {ps = ps} x) = in_place (λ p. and_process p ps) (λ x y u v w. step_first) (turn_in x)
  turn_among (turn_later {p = p} x) = in_place (and_process p) (λ x y u v w. step_later) (turn_among x)

chain_run : {errors : Errors} {n : ℕ} {kb : List ℕ} {p p' : Process} {s s' : Store} {st : Status} {xs : List Communication} {c : System} (noted : List Fault) → MayGo errors noted → Chain (StepIn n) p s p' s' st → StepRun errors (system kb p' s' (noted ++ fault_noted st)) xs c → StepRun errors (system kb p s noted) xs c
chain_run noted h (last x) r = steps {x = None} (process_step h x) r
chain_run {errors = errors} {kb = kb} {xs = xs} {c = c} noted h (first {b = b} {s' = s'} {st = st} x q rest) r =
    let same : noted ≡ noted ++ fault_noted st = sym (ap (λ l. noted ++ l) q ∙ append-nil noted) in
    steps {x = None} (process_step h x) (subst (λ l. StepRun errors (system kb b s' l) xs c) same (chain_run noted h rest r))

pub turns_are_steps : TurnsAreSteps
turns_are_steps errors quantum a b [] no_turn = no_step
turns_are_steps errors quantum a b (event n None ∷ es) (goes (system_turn {noted = noted} h t) (meets_none g) r) = chain_run noted h (turn_in t) (turns_are_steps errors quantum _ b es r)
turns_are_steps errors quantum a b (event n (Some x) ∷ es) (goes (system_turn {noted = noted} h t) (meets_one g w m) r) = chain_run noted h (turn_in t) (steps {x = Some x} (meeting g m) (turns_are_steps errors quantum _ b es r))
turns_are_steps errors quantum a b (event n None ∷ es) (goes (system_turn {noted = noted} h t) (meets_skip g m) r) = chain_run noted h (turn_in t) (steps {x = None} (skipping g m) (turns_are_steps errors quantum _ b es r))
