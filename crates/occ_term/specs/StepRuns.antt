-- Runs by single steps: each is a private step of one process, the end of a PAR, or a communication.
-- Each run by turns is one: a turn is private steps of one process in a row.
-- Manual: combining processes (PAR: the steps of its branches in any order).
use Rattle.std.specs.Prelude.{List, None, Option, Some, [], ℕ, ◌++◌, ◌∷◌}
use Rattle.occ_term.specs.declared.fault.Errors.{Errors}
use Rattle.occ_term.specs.Messages.{Fault}
use Rattle.occ_term.specs.Terms.{Skip, Branches}
use Rattle.occ_term.specs.Values.{Store}
use Rattle.occ_term.specs.Steps.{Do, Forking, Context, Left, left, Status, Runs, status, Step}
use Rattle.occ_term.specs.System.{Process, process, Processes, no_processes, and_process, System, system, MayGo, noted_in, begun, fault_noted, AllEnded, Communication, Meets, PassesSkip}
use Rattle.occ_term.specs.Runs.{Event, communications, Run}

-- a private step of the process with that number, or the end of its PAR, and what it stands at then
mutual
  pub data StepIn (n : ℕ) : Process → Store → Process → Store → Status → Type 0 where
    step_here : {a b : Left} {s s' : Store} → Step a s b s' → StepIn n (process n a no_processes) s (process n b (begun (status b))) s' (status b)
    join_here : {bs : Branches} {k : List Context} {ps : Processes} {s : Store}
        → AllEnded ps → StepIn n (process n (left (Forking bs) k) ps) s (process n (left (Do Skip) k) no_processes) s Runs
    step_below : {m : ℕ} {a : Left} {ps ps' : Processes} {s s' : Store} {st : Status}
        → StepAmong n ps s ps' s' st → StepIn n (process m a ps) s (process m a ps') s' st

  pub data StepAmong (n : ℕ) : Processes → Store → Processes → Store → Status → Type 0 where
    step_first : {p p' : Process} {ps : Processes} {s s' : Store} {st : Status}
        → StepIn n p s p' s' st → StepAmong n (and_process p ps) s (and_process p' ps) s' st
    step_later : {p : Process} {ps ps' : Processes} {s s' : Store} {st : Status}
        → StepAmong n ps s ps' s' st → StepAmong n (and_process p ps) s (and_process p ps') s' st

-- one step of the system, with its communication
pub data SystemStep (errors : Errors) : System → Option Communication → System → Type 0 where
  process_step : {n : ℕ} {kb : List ℕ} {p p' : Process} {s s' : Store} {noted : List Fault} {st : Status}
      → MayGo errors noted → StepIn n p s p' s' st → SystemStep errors (system kb p s noted) None (system kb p' s' (noted ++ fault_noted st))
  meeting : {a b : System} {x : Communication} → MayGo errors (noted_in a) → Meets a x b → SystemStep errors a (Some x) b
  skipping : {n : ℕ} {a b : System} → MayGo errors (noted_in a) → PassesSkip n a b → SystemStep errors a None b

abbrev pub and_met : Option Communication → List Communication → List Communication
and_met None xs = xs
and_met (Some x) xs = x ∷ xs

-- a run by steps, with its communications in order
pub data StepRun (errors : Errors) : System → List Communication → System → Type 0 where
  no_step : {a : System} → StepRun errors a [] a
  steps : {a b c : System} {x : Option Communication} {xs : List Communication}
      → SystemStep errors a x b → StepRun errors b xs c → StepRun errors a (and_met x xs) c

-- the law
abbrev pub TurnsAreSteps : Type 0
TurnsAreSteps = (errors : Errors) (quantum : ℕ) (a b : System) (es : List Event) → Run errors quantum a es b → StepRun errors a (communications es) b
