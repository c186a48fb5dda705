-- A run in code is a replay.
use Rattle.std.proofs.Common.{◌≡◌, ◌∙◌, ◌+◌, ◌<◌, ◌^◌, ◌≤◌, refl, sym, ap, subst, ℕ, suc, List, [], ◌∷◌, ◌++◌, Some, None, length, take, drop, inl, inr, arith, length-append, length-take}
use Rattle.std.specs.Prelude.{slice_get}
use Rattle.std.proofs.Math.Seq.{take-suc}
use Rattle.std.proofs.lemmas.List.{take_all, take-append-drop}
use Rattle.std.proofs.lemmas.Option.{slice_get_within, slice_get_cases, get_or_from_slice_get}
use Rattle.occ_term.specs.declared.fault.Errors.{Errors}
use Rattle.occ_machine.specs.Compiled.{Program}
use Rattle.occ_net_replay.specs.declared.choice.Choice.{Choice}
use Rattle.occ_net_replay.specs.Following.{or_limit}
use Rattle.occ_net_replay.specs.Replay.{Net, Replays, ending_of, first_net, first_noted, main_done, ready_from}
use Rattle.occ_net_tables.specs.declared.tables.Tables.{Tables}
use Rattle.occ_net_tables.specs.Holding.{Holds}
use Rattle.occ_net_tables.specs.Running.{HasRun}
use Rattle.occ_net_tables.specs.Places.{all_kept, kept_by, none_placed, one_placed, placed_among}
use Rattle.occ_net_tables.specs.declared.running.Keep.{Keep}
use Rattle.occ_net_tables.specs.declared.running.Keep.TheVariants.{Given, Places}
use Rattle.occ_net_tables.specs.declared.running.Ran.{Ran}
use Rattle.occ_term.specs.declared.communication.Communication.{Communication}
use Rattle.occ_net_tables.proofs.Placing.{placed_replays}
use Rattle.occ_net_tables.proofs.Turned.{is_open}
use Rattle.occ_net_tables.specs.Settling.{Standing, TurnsTo}
use Rattle.occ_net_tables.specs.declared.running.Outcome.{Outcome}
use Rattle.occ_net_tables.specs.Outcomes.{Begins, IsOutcome, IsRan}

-- ---- turn by turn

pub starts : (p : Program) (kb : List ℕ) (keep : Keep) (n : Tables) → ((k : List ℕ) → Holds p k n (first_net p k)) → HasRun p kb keep [] [] n
starts p kb keep n h = record { net = first_net p kb; places = []; placed = none_placed; kept_is = none_kept keep; holds = h kb }
  where
    none_kept : (k : Keep) → [] ≡ all_kept k [] []
    none_kept Given = refl
    none_kept Places = refl

pub stands : (p : Program) (kb : List ℕ) (keep : Keep) (given kept : List Choice) (n : Tables) → 1 + length given < 2 ^ 64 → (h : HasRun p kb keep given kept n) → ending_of p.errors h.net ≡ None → Standing p kb n
stands p kb keep given kept n few h going = record { choices = given; few = few; net = h.net; replays = placed_replays p kb h.placed; open_end = going; holds = h.holds }

pub one_more_kept : (keep : Keep) (given places kept ready : List _) (c : Choice) → kept ≡ all_kept keep given places → kept ++ kept_by keep ready c ∷ [] ≡ all_kept keep (given ++ c ∷ []) (places ++ placed_among ready c ∷ [])
one_more_kept Given given places kept ready c e = ap (λ l. l ++ c ∷ []) e
one_more_kept Places given places kept ready c e = ap (λ l. l ++ placed_among ready c ∷ []) e

pub one_more_turn : (p : Program) (kb : List ℕ) (keep : Keep) (given kept : List Choice) (c : Choice) (old new : Tables) (h : HasRun p kb keep given kept old) → ending_of p.errors h.net ≡ None → ((net : Net) → Holds p kb old net → TurnsTo p kb c net new) → HasRun p kb keep (given ++ c ∷ []) (kept ++ kept_by keep (ready_from 0 h.net.tasks) c ∷ []) new
one_more_turn p kb keep given kept c old new h going turns =
    let x = turns h.net h.holds in
    record {
      net = x.next;
      places = h.places ++ placed_among (ready_from 0 h.net.tasks) c ∷ [];
      placed = one_placed h.placed going x.turn;
      kept_is = one_more_kept keep given h.places kept (ready_from 0 h.net.tasks) c h.kept_is;
      holds = x.holds;
    }

pub run_is : (p : Program) (kb : List ℕ) (list : List Choice) (keep : Keep) (given : List Choice) (r : Ran) (h : HasRun p kb keep given r.kept.items r.tables) → Begins given list → r.ending ≡ or_limit (ending_of p.errors h.net) → (ending_of p.errors h.net ≡ None → given ≡ list) → IsRan p kb list keep r
run_is p kb list keep given r h b e w = record { given = given; run = h; used = b; ending = e; whole = w }

-- where what was given was kept
pub outcome : (p : Program) (kb : List ℕ) (list : List Choice) (r : Ran) (trace : List Communication) (h : IsRan p kb list Given r) → ((k : List ℕ) (net : Net) → Holds p k r.tables net → net.trace ≡ trace)
    → (o : Outcome) → o.ending ≡ r.ending → o.choices ≡ r.kept → o.trace ≡ trace → IsOutcome p kb list o
outcome p kb list r trace h shows o same_end same_choices same_trace =
    let used : h.given ≡ o.choices.items = sym h.run.kept_is ∙ ap (λ v. v.items) (sym same_choices) in
    record {
      net = h.run.net;
      replays = subst (λ cs. Replays p kb cs h.run.net) used (placed_replays p kb h.run.placed);
      trace = shows kb h.run.net h.run.holds ∙ (sym same_trace);
      used = subst (λ cs. Begins cs list) used h.used;
      ending = same_end ∙ h.ending;
      whole = λ q. sym used ∙ h.whole q;
    }

-- ---- the used choices

pub taken_more : (ys : List Choice) (n : ℕ) (c : Choice) → slice_get ys n ≡ Some c → take n ys ++ c ∷ [] ≡ take (n + 1) ys
taken_more ys n c at =
    let within : n < length ys = slice_get_within ys n c at in
    let next : suc n ≡ n + 1 = omega arith in
    ap (λ d. take n ys ++ d ∷ []) (sym (get_or_from_slice_get ys n c c at)) ∙ sym (take-suc ys n c within) ∙ ap (λ k. take k ys) next

pub begins_taken : (ys : List Choice) (n : ℕ) → Begins (take n ys) ys
begins_taken ys n = record { rest = drop n ys; is = sym (take-append-drop n ys) }

pub all_taken : (ys : List Choice) (n : ℕ) → slice_get ys n ≡ None → take n ys ≡ ys
all_taken ys n none = take_all n ys past
  where
    past : length ys ≤ n
    past = elim (slice_get_cases ys n).1 [ inl h ↦ absurd (let q = sym h.2 ∙ none in cc) | inr h ↦ h.0 ]

pub taken_short : (ys : List Choice) (n : ℕ) → length (take n ys) ≤ n
taken_short ys n = omega (arith, length-take n ys)

-- ---- a turn of the loop

some_long : (xs : List ℕ) → (xs ≡ [] → ⊥) → 0 < length xs
some_long [] h = absurd (h refl)
some_long (x ∷ xs) h = omega arith

pub some_ready_in : (errors : Errors) (net : Net) → ending_of errors net ≡ None → 0 < length (ready_from 0 net.tasks)
some_ready_in errors net e = some_long (ready_from 0 net.tasks) (is_open errors (first_noted net.noted) (main_done net.tasks) (ready_from 0 net.tasks) e).some

pub next_run : (p : Program) (kb : List ℕ) (keep : Keep) (list kept : List Choice) (c : Choice) (old new : Tables) (h : HasRun p kb keep (take (length kept) list) kept old) → ending_of p.errors h.net ≡ None → ((net : Net) → Holds p kb old net → TurnsTo p kb c net new)
    → slice_get list (length kept) ≡ Some c → (one : Choice) → one ≡ kept_by keep (ready_from 0 h.net.tasks) c → (after : List Choice) → after ≡ kept ++ one ∷ [] → HasRun p kb keep (take (length after) list) after new
next_run p kb keep list kept c old new h going turns at one own after grown =
    let now : List Choice = kept ++ kept_by keep (ready_from 0 h.net.tasks) c ∷ [] in
    let same : now ≡ after = ap (λ (d : Choice). kept ++ d ∷ []) (sym own) ∙ sym grown in
    let count : length kept + 1 ≡ length after = sym (ap length grown ∙ length-append kept (one ∷ [])) in
    let given : take (length kept) list ++ c ∷ [] ≡ take (length after) list = taken_more list (length kept) c at ∙ ap (λ (k : ℕ). take k list) count in
    subst (λ (cs : List Choice). HasRun p kb keep (take (length after) list) cs new) same (subst (λ (cs : List Choice). HasRun p kb keep cs now new) given (one_more_turn p kb keep (take (length kept) list) kept c old new h going turns))
