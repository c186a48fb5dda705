-- What a live run came to is what a run came to that had the bytes from the start.
use Rattle.std.proofs.Common.{◌≡◌, ◌∙◌, ◌+◌, ℕ, Bool, true, false, List, Option, Some, None, [], inr, refl, sym, ap, subst, arith}
use Rattle.std.specs.Prelude.{Ok, Err, IfOk, Result, is_some, nat_eq, not, ◌&&◌}
use Rattle.occ_choices.specs.Crews.{IsCrew}
use Rattle.std.specs.Option.{ForSome}
use Rattle.occ_choices.specs.Plans.{choices_of}
use Rattle.occ_choices.specs.declared.plan.Plan.{Plan}
use Rattle.occ_net_replay.specs.declared.choice.Choice.{Choice}
use Rattle.occ_live.specs.declared.playing.LivePlayed.{LivePlayed}
use Rattle.occ_play.specs.declared.playing.Options.{Options}
use Rattle.occ_play.specs.declared.fault.PlayFault.{PlayFault}
use Rattle.occ_play.specs.Playing.{Refuses}
use Rattle.occ_play_inputs.specs.Asked.{IsAsked, IsAskedBy, IsTyped}
use Rattle.occ_play_inputs.specs.declared.failure.Failure.{Failure}
use Rattle.occ_play_inputs.specs.declared.inputs.Inputs.{Inputs}
use Rattle.occ_play_inputs.specs.declared.words.Words.{Words}
use Rattle.occ_program.specs.Coming.{CameToBy, IsStatusFor, IsStatusOf, IsTriedBy, options_in, workers_asked, workers_in}
use Rattle.occ_program.specs.Live.{LivesTo, RunsAlone, runs_live}
use Rattle.occ_program.specs.Trying.{IsTriedPlanFor, by_seed}
use Rattle.occ_program.proofs.Statuses.{refused_by}
use Rattle.occ_play_inputs.specs.Seeds.{seeded}

-- ---- which words are live

none_if : {X : Type 0} (o : Option X) → not (is_some o) ≡ true → o ≡ None
none_if None e = refl
none_if (Some x) e = cc

false_if : (b : Bool) → not b ≡ true → b ≡ false
false_if false e = refl
false_if true e = cc

first_if : (a b : Bool) → (a && b) ≡ true → a ≡ true
first_if true b e = refl
first_if false b e = cc

second_if : (a b : Bool) → (a && b) ≡ true → b ≡ true
second_if true b e = e
second_if false b e = cc

same_if : (m n : ℕ) → nat_eq m n ≡ true → m ≡ n
same_if m n e = grind arith

pub alone_if : (words : Words) (terminal : Bool) → runs_live words terminal ≡ true → RunsAlone words
alone_if words terminal e =
    let all = first_if ((not (is_some words.workers) && not words.watch) && nat_eq words.tries 1) _ e in
    let two = first_if (not (is_some words.workers) && not words.watch) (nat_eq words.tries 1) all in
    record {
      workers = none_if words.workers (first_if (not (is_some words.workers)) (not words.watch) two);
      watch = false_if words.watch (second_if (not (is_some words.workers)) (not words.watch) two);
      tries = same_if words.tries 1 (second_if (not (is_some words.workers) && not words.watch) (nat_eq words.tries 1) all);
    }

-- ---- which plan they have

none_asked : {Path : Type 0} (watch : Bool) (workers : Option ℕ) (choices : Option Path) → watch ≡ false → workers ≡ None → workers_asked watch workers choices ≡ None
none_asked watch workers (Some path) e f = refl
none_asked true workers None e f = cc
none_asked false workers None e f = f

pub no_workers : (words : Words) → RunsAlone words → workers_in words ≡ None
no_workers words alone = none_asked words.watch words.workers words.choices alone.watch alone.workers

once : {Path : Type 0} (options : Options) (source keyboard : List ℕ) (limit : ℕ) (choices : Option Path) (seed : Option ℕ) (tries : ℕ) (plan : Plan) → tries ≡ 1
    → IsAsked limit choices seed tries plan → IsTriedPlanFor options source keyboard limit choices seed tries plan
once options source keyboard limit (Some path) seed tries plan one h = tt
once options source keyboard limit None None tries plan one h = tt
once options source keyboard limit None (Some first) tries plan one h =
    let within = h.within in
    let none : h.place ≡ 0 = omega (arith, one, within) in
    let here : first + 0 ≡ first = omega arith in
    by_seed first
    record {
      place = 0;
      within = omega (arith, one);
      is = sym here;
      before = λ k lt. absurd (omega (arith, lt));
      own = inr (sym one);
    }
    (h.choices ∙ ap (λ p. seeded (first + p) limit) none ∙ ap (λ n. seeded n limit) here)

-- the first seed alone is tried
pub tried_once : (words : Words) (source keyboard : List ℕ) (plan : Plan) → RunsAlone words → IsAskedBy words plan → IsTriedBy words source keyboard plan
tried_once words source keyboard plan alone h = once (options_in words) source keyboard words.limit words.choices words.seed words.tries plan alone.tries h

-- ---- what they come to

pub none_typed : {Path : Type 0} (file : Option Path) (keyboard : List ℕ) → IsTyped file false keyboard → keyboard ≡ []
none_typed None keyboard h = h
none_typed (Some path) keyboard h = h

no_crew : (workers : Option ℕ) → workers ≡ None → ForSome workers IsCrew
no_crew None same n e = absurd cc
no_crew (Some w) same n e = absurd cc

-- the answer for the bytes that were read
pub came_live : (words : Words) (inputs : Inputs) (read : List ℕ) (live : LivePlayed) → RunsAlone words → LivesTo words inputs read live
    → CameToBy (workers_in words) words inputs.source.items read (choices_of inputs.plan) (Ok live.played)
came_live words inputs read live alone h =
    subst (λ w. CameToBy w words inputs.source.items read (choices_of inputs.plan) (Ok live.played)) (sym (no_workers words alone)) (h.0, h.1.answer)

pub came_refused : (words : Words) (source keyboard : List ℕ) (list : List Choice) (fault : PlayFault) → RunsAlone words → Refuses (options_in words) source fault
    → CameToBy (workers_in words) words source keyboard list (Err fault)
came_refused words source keyboard list fault alone h =
    subst (λ w. CameToBy w words source keyboard list (Err fault)) (sym (no_workers words alone)) (refused_by None words source keyboard list fault (no_crew None refl) h)

-- the status of what was read is that of some source
pub of_some : (words : Words) (source keyboard : List ℕ) (r : Result ℕ Failure) → IfOk r (IsStatusOf words source keyboard) → IfOk r (IsStatusFor words)
of_some words source keyboard (Ok s) h = (source, keyboard, h)
of_some words source keyboard (Err f) h = tt
