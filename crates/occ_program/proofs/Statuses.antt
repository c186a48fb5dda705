-- Exit statuses are at most 7, and what they come from.
use Rattle.std.proofs.Common.{ℕ, ◌≤◌, ◌≡◌, ◌⊎◌, inl, inr, List, Bool, IsTrue, true, false, ap, arith, refl, subst, sym}
use Rattle.std.specs.Result.{result_and}
use Rattle.std.specs.Prelude.{IfNone, Result, Ok, Err, IfOk, IfErr, IfSome, None, Option, Some, if◌then◌else◌, is_some, unwrap_or, ◌==◌}
use Rattle.std.specs.Borrow.{Bor}
use Rattle.std.specs.Option.{ForSome}
use Rattle.occ_choices.specs.Crews.{IsCrew}
use Rattle.occ_text.specs.declared.fault.TextFault.TheVariants as text
use Rattle.occ_tree_grammar.specs.declared.fault.ParseFault.TheVariants as tree
use Rattle.occ_usage.specs.declared.checked.UsageFault.TheVariants as usage
use Rattle.occ_check_lines.specs.declared.fault.CheckFault.TheVariants as check
use Rattle.occ_code.specs.declared.compiling.CodeFault.TheVariants as code
use Rattle.occ_run.specs.declared.fault.RunFault.TheVariants as run
use Rattle.occ_net_replay.specs.declared.choice.Choice.{Choice}
use Rattle.occ_term.specs.declared.ending.Ending.{Ending}
use Rattle.occ_term.specs.declared.ending.Ending.TheVariants.{Ended, Stopped, Fault, StoppedBy, Limit}
use Rattle.occ_play.specs.declared.playing.Played.{Played}
use Rattle.occ_play.specs.declared.fault.PlayFault.{PlayFault}
use Rattle.occ_play.specs.declared.fault.PlayFault.TheVariants as play
use Rattle.occ_play_inputs.specs.declared.failure.Failure.{Failure}
use Rattle.occ_play.specs.Playing.{IsAnswer, Refuses}
use Rattle.occ_play.specs.Working.{IsAnswerWithin, WorkersRefuse}
use Rattle.occ_play.proofs.Working.{workers_refuse}
use Rattle.occ_play.specs.Status.{ending_status, fault_status}
use Rattle.occ_play_inputs.specs.Failures.{failure_status}
use Rattle.occ_play_inputs.specs.declared.words.Words.{Words as Asked}
use Rattle.occ_play.specs.declared.playing.Options.{Options}
use Rattle.occ_program.specs.Watched.{CameTo}
use Rattle.occ_explore.specs.declared.exploration.Asked.{Asked as AskedFor}
use Rattle.occ_explore.specs.declared.exploration.Exploration.{Exploration}
use Rattle.occ_explore.specs.declared.exploration.Answer.{Answer}
use Rattle.occ_exploring.specs.Alone.{IsOnlyFor, IsUntoldFor, only_status, turns_within}
use Rattle.occ_exploring.specs.Explored.{IsDrawnFor, IsExplored}
use Rattle.occ_explore.specs.declared.exploration.Verdict.{Verdict}
use Rattle.occ_explore.specs.declared.exploration.Verdict.TheVariants.{All, First, Heavy, More, OutOfMemory}
use Rattle.occ_explore.specs.Exploring.{EndsAtFirst}
use Rattle.occ_exploring.specs.Statuses.{is_fault, has_stopped, search_status, some_ends, verdict_status, waiting_status}
use Rattle.occ_explore.specs.declared.exploration.Waiting.{Waiting}
use Rattle.occ_exploring.specs.Within.{IsComparison, RefusesOne, SaysOfRuns, keeping_status, kept_status}
use Rattle.occ_exploring.specs.declared.within.KeepFault.{KeepFault}
use Rattle.occ_exploring.specs.declared.within.Keeping.{Keeping}
use Rattle.occ_exploring.specs.declared.within.Keeping.TheVariants.{Same, Within, Outside}
use Rattle.occ_exploring.specs.declared.within.Kept.{Kept}
use Rattle.occ_exploring.specs.declared.within.Kept.TheVariants.{Compared, SourcePassed, SpecificationPassed}
use Rattle.occ_program.specs.Coming.{CameToBy, IsKeepStatus, KeptTo, asked_in, options_in, workers_asked, IsLookStatus, IsSearchStatus, IsStatusFor, OnlyTo, ProgramStatus, SearchedTo, found_status, look_status, of_comparing, of_look, of_play, of_search, of_failure, of_help}

ending_small : (e : Ending) → ending_status e ≤ 7
ending_small Ended = omega arith
ending_small Stopped = omega arith
ending_small (Fault fault) = omega arith
ending_small (StoppedBy fault) = omega arith
ending_small Limit = omega arith

pub fault_small : (f : PlayFault) → fault_status f ≤ 7
fault_small (play.Text text.Memory) = omega arith
fault_small (play.Text f) = omega arith
fault_small (play.Parse tree.Memory) = omega arith
fault_small (play.Parse f) = omega arith
fault_small (play.Check check.Memory) = omega arith
fault_small (play.Check f) = omega arith
fault_small (play.Usage usage.Memory) = omega arith
fault_small (play.Usage f) = omega arith
fault_small (play.Code code.Memory) = omega arith
fault_small (play.Code code.BadQuantum) = omega arith
fault_small (play.Code f) = omega arith
fault_small (play.Write written) = omega arith
fault_small (play.Run run.BadWorkers) = omega arith
fault_small (play.Run f) = omega arith
fault_small (play.Memory e) = omega arith

-- a refused text is what a run came to that was to be drawn
came_of_refusal : (options : Options) (source : List ℕ) (Answers : Played → List ℕ → Type 0) (Refusal : PlayFault → Type 0) (f : PlayFault) → ((e : PlayFault) → Refuses options source e → Refusal e) → Refuses options source f → CameTo Answers Refusal (Err f)
came_of_refusal options source Answers Refusal (play.Text f) as_well h = as_well (play.Text f) h
came_of_refusal options source Answers Refusal (play.Parse f) as_well h = as_well (play.Parse f) h
came_of_refusal options source Answers Refusal (play.Check f) as_well h = as_well (play.Check f) h
came_of_refusal options source Answers Refusal (play.Usage f) as_well h = as_well (play.Usage f) h
came_of_refusal options source Answers Refusal (play.Code f) as_well h = as_well (play.Code f) h
came_of_refusal options source Answers Refusal (play.Write written) as_well h = absurd h
came_of_refusal options source Answers Refusal (play.Run f) as_well h = absurd h
came_of_refusal options source Answers Refusal (play.Memory e) as_well h = as_well (play.Memory e) h

-- who is asked for is a crew
pub crew_asked : {Path : Type 0} (watch : Bool) (workers : Option ℕ) (choices : Option Path) → ForSome workers IsCrew → ForSome (workers_asked watch workers choices) IsCrew
crew_asked watch workers (Some path) h n e = absurd cc
crew_asked true (Some w) None h n e = h n e
crew_asked true None None h n e = let one : IsCrew 1 = (omega arith, omega arith) in subst IsCrew (ap (λ o. unwrap_or o 0) e) one
crew_asked false workers None h n e = h n e

pub refused_by : (workers : Option ℕ) (words : Asked) (source keyboard : List ℕ) (list : List Choice) (f : PlayFault) → ForSome workers IsCrew → Refuses (options_in words) source f → CameToBy workers words source keyboard list (Err f)
refused_by None words source keyboard list f crew h = came_of_refusal (options_in words) source (IsAnswer (options_in words) source keyboard list words.trace) (Refuses (options_in words) source) f (λ e g. g) h
refused_by (Some workers) words source keyboard list f crew h =
    came_of_refusal (options_in words) source (IsAnswerWithin (options_in words) source keyboard words.limit words.trace) (WorkersRefuse workers (options_in words) source) f (λ e. workers_refuse workers (options_in words) source e (crew workers refl)) h

pub came_to_both : {Done : Type 0} (workers : Option ℕ) (words : Asked) (source keyboard : List ℕ) (list : List Choice) (drawn : Result Done PlayFault) (r : Result Played PlayFault)
    → ForSome workers IsCrew → IfErr drawn (Refuses (options_in words) source) → CameToBy workers words source keyboard list r → CameToBy workers words source keyboard list (result_and drawn r)
came_to_both workers words source keyboard list (Ok done) r crew h g = g
came_to_both workers words source keyboard list (Err f) r crew h g = refused_by workers words source keyboard list f crew h

-- what was played has its status, what was looked at or searched, and so has a failure
played_status : (words : Asked) (r : Result ℕ Failure) → words.within ≡ None → words.explore ≡ None → words.check ≡ false → IfOk r (IsStatusFor words) → IfOk r ProgramStatus
played_status words (Ok s) alone one run h = of_play words alone one run h
played_status words (Err f) alone one run h = tt

looked_status : (words : Asked) (r : Result ℕ Failure) → words.within ≡ None → words.explore ≡ None → words.check ≡ true → IfOk r (IsLookStatus words) → IfOk r ProgramStatus
looked_status words (Ok s) alone one look h = of_look words alone one look h
looked_status words (Err f) alone one look h = tt

pub looked_or_played : (words : Asked) (r : Result ℕ Failure) → words.within ≡ None → words.explore ≡ None → (words.check ≡ true → IfOk r (IsLookStatus words)) → (words.check ≡ false → IfOk r (IsStatusFor words))
    → IfOk r ProgramStatus
looked_or_played words r alone one looked played = by words.check refl
  where
    by : (check : Bool) → words.check ≡ check → IfOk r ProgramStatus
    by true e = looked_status words r alone one e (looked e)
    by false e = played_status words r alone one e (played e)

pub searched_status : (words : Asked) (asked : AskedFor) (r : Result ℕ Failure) → words.within ≡ None → words.explore ≡ Some asked → IfOk r (IsSearchStatus words asked) → IfOk r ProgramStatus
searched_status words asked (Ok s) alone all h = of_search words asked alone all h
searched_status words asked (Err f) alone all h = tt

pub compared_status : (words : Asked) (path : Bor (List ℕ)) (r : Result ℕ Failure) → words.within ≡ Some path → IfOk r (IsKeepStatus words) → IfOk r ProgramStatus
compared_status words path (Ok s) with_it h = of_comparing words path with_it h
compared_status words path (Err f) with_it h = tt

-- what holds of these texts holds of those
along : (Z : (specification source keyboard : List ℕ) → AskedFor → Options → Type 0) {s t b c k l : List ℕ} {a d : AskedFor} {o p : Options}
    → s ≡ t → b ≡ c → k ≡ l → a ≡ d → o ≡ p → Z s b k a o → Z t c l d p
along Z {s = s} {b = b} {c = c} {k = k} {l = l} {a = a} {d = d} {p = p} e f g h i z =
    subst (λ x. Z x c l d p) e (subst (λ x. Z s x l d p) f (subst (λ x. Z s b x d p) g (subst (λ x. Z s b k x p) h (subst (λ x. Z s b k a x) i z))))

-- what a source and its specification came to, by three clauses
pub kept_to : (words : Asked) (specification source keyboard spec bytes keys : List ℕ) (asked : AskedFor) (options : Options) (found : Result Kept KeepFault)
    → options ≡ options_in words → spec ≡ specification → bytes ≡ source → keys ≡ keyboard → asked ≡ asked_in words
    → IfOk found (IsComparison options spec bytes keys asked words.states) → IfOk found (SaysOfRuns options.errors asked spec bytes keys) → IfErr found (RefusesOne options spec bytes)
    → KeptTo words specification source keyboard found
kept_to words specification source keyboard spec bytes keys asked options (Ok kept) same of from typed compared h s g =
    along (λ x y z a o. IsComparison o x y z a words.states kept × SaysOfRuns o.errors a x y z kept) of from typed compared same (h, s)
kept_to words specification source keyboard spec bytes keys asked options (Err fault) same of from typed compared h s g =
    along (λ x y z a o. RefusesOne o x y fault) of from typed compared same g

keeping_small : (keeping : Keeping) → keeping_status keeping ≤ 7
keeping_small Same = omega arith
keeping_small Within = omega arith
keeping_small (Outside place) = omega arith

pub kept_small : (kept : Kept) → kept_status kept ≤ 7
kept_small (Compared c) = keeping_small c.keeping
kept_small SourcePassed = omega arith
kept_small SpecificationPassed = omega arith

-- what a search came to, by its three clauses
pub searched_to : (words : Asked) (source keyboard bytes keys : List ℕ) (asked : AskedFor) (options : Options) (found : Result Exploration PlayFault)
    → options ≡ options_in words → bytes ≡ source → keys ≡ keyboard
    → IfOk found (IsExplored options bytes keys asked words.full words.states) → IfOk found (λ e. EndsAtFirst words.first e.answers.items e.verdict)
    → (draws : Bool) → draws ≡ is_some words.graph → IfOk found (λ e. IsTrue words.full → IsDrawnFor options bytes keys asked draws e) → IfErr found (Refuses options bytes) → SearchedTo words source keyboard asked found
searched_to words source keyboard bytes keys asked options (Ok e) same from typed h first draws wanted drawn g = (
  subst (λ o. IsExplored o source keyboard asked words.full words.states e) same
      (subst (λ k. IsExplored options source k asked words.full words.states e) typed (subst (λ s. IsExplored options s keys asked words.full words.states e) from h)),
  first,
  λ full.
      subst (λ b. IsDrawnFor (options_in words) source keyboard asked b e) wanted
      (subst (λ o. IsDrawnFor o source keyboard asked draws e) same
      (subst (λ k. IsDrawnFor options source k asked draws e) typed (subst (λ s. IsDrawnFor options s keys asked draws e) from (drawn full)))),
)
searched_to words source keyboard bytes keys asked options (Err f) same from typed h first draws wanted drawn g =
    subst (λ o. Refuses o source f) same (subst (λ s. Refuses options s f) from g)

-- what one run told, by its two clauses
pub only_to : (words : Asked) (source keyboard bytes keys : List ℕ) (options : Options) (most : ℕ) (found : Result (Option Answer) PlayFault)
    → options ≡ options_in words → bytes ≡ source → keys ≡ keyboard → most ≡ turns_within words.states words.memory
    → IfOk found (λ o. IfSome o (IsOnlyFor options bytes keys)) → IfOk found (λ o. IfNone o (IsUntoldFor options bytes keys most)) → IfErr found (Refuses options bytes) → OnlyTo words source keyboard found
only_to words source keyboard bytes keys options most (Ok None) same from typed few h u g =
    subst (IsUntoldFor (options_in words) source keyboard) few (subst (λ o. IsUntoldFor o source keyboard most) same (subst (λ k. IsUntoldFor options source k most) typed (subst (λ s. IsUntoldFor options s keys most) from u)))
only_to words source keyboard bytes keys options most (Ok (Some a)) same from typed few h u g =
    subst (λ o. IsOnlyFor o source keyboard a) same (subst (λ k. IsOnlyFor options source k a) typed (subst (λ s. IsOnlyFor options s keys a) from h))
only_to words source keyboard bytes keys options most (Err f) same from typed few h u g = subst (λ o. Refuses o source f) same (subst (λ s. Refuses options s f) from g)

pub only_small : (a : Answer) → only_status a ≤ 7
only_small a = by (is_fault a.ending) (has_stopped a.ending)
  where
    by : (fault stop : Bool) → (if fault then 3 else if stop then 2 else 0) ≤ 7
    by true stop = omega arith
    by false true = omega arith
    by false false = omega arith

or_waiting_small : (n : ℕ) (w : Option Waiting) → n ≤ 7 → (if n == 0 then waiting_status w else n) ≤ 7
or_waiting_small n w h = by (n == 0) w
  where
    by : (b : Bool) (w : Option Waiting) → (if b then waiting_status w else n) ≤ 7
    by true None = omega arith
    by true (Some w) = omega arith
    by false w = h

search_small : (e : Exploration) → search_status e ≤ 7
search_small e = or_waiting_small (verdict_status e.answers.items e.verdict) e.waiting (by e.verdict)
  where
    of : (fault stop : Bool) → (if fault then 3 else if stop then 2 else 0) ≤ 7
    of true stop = omega arith
    of false true = omega arith
    of false false = omega arith

    by : (v : Verdict) → verdict_status e.answers.items v ≤ 7
    by (All lasting) = of (some_ends is_fault e.answers.items) (some_ends has_stopped e.answers.items)
    by First = of (some_ends is_fault e.answers.items) (some_ends has_stopped e.answers.items)
    by More = omega arith
    by Heavy = omega arith
    by OutOfMemory = omega arith

pub found_small : (found : Result Exploration PlayFault) → found_status found ≤ 7
found_small (Ok e) = search_small e
found_small (Err f) = fault_small f

pub look_small : (fault : Option PlayFault) → look_status fault ≤ 7
look_small None = omega arith
look_small (Some f) = fault_small f

pub failed_status : (f : Failure) (s : ℕ) → (s ≡ failure_status f) ⊎ ((failure_status f ≡ 0) × (s ≡ 6)) → ProgramStatus s
failed_status f s (inl e) = subst ProgramStatus (sym e) (of_failure f)
failed_status f s (inr h) = subst ProgramStatus (sym h.1) (of_help f h.0)
