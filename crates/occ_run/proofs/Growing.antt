-- The trace of a network only grows, and with it what is told of it.
use Rattle.std.proofs.Common.{◌≡◌, ◌∙◌, refl, sym, ap, subst, Bool, ℕ, zero, suc, ◌+◌, List, [], ◌∷◌, ◌++◌, length, inl, inr, ◌⊎◌, arith, append_assoc}
use Rattle.std.specs.Prelude.{Result, Ok, Err, IfOk, IfErr, false}
use Rattle.std.proofs.lemmas.List.{append-nil}
use mathlib.Core.List.{IsPrefix}
use Rattle.logbook.specs.Pages.{Book}
use Rattle.occ_term.specs.Runs.{Entry, Names, entries, entry_of}
use Rattle.occ_term.specs.System.{communication}
use Rattle.occ_term.specs.declared.communication.Communication.{Communication}
use Rattle.occ_term.specs.declared.communication.End.{End}
use Rattle.occ_term.specs.declared.message.Message.{Message}
use Rattle.occ_machine.specs.Compiled.{Program}
use Rattle.occ_machine.specs.Machine.{Body}
use Rattle.occ_board.specs.Editions.{Reached, blank, reached}
use Rattle.occ_board.proofs.Prefixes.{prefix_self, prefix_trans}
use Rattle.occ_net.specs.Networks.{IsNetwork, IsState, Past, fresh, with_out}
use Rattle.occ_net.specs.Stretches.{SettlesAll, after_turns, choices_from}
use Rattle.occ_net_replay.specs.declared.choice.Choice.{Choice}
use Rattle.occ_net_replay.specs.Replay.{Gets, HandsOver, Net, OneTurn, Replays, Settled, arm_gets, begins, error_gets, forks, goes_on, joined, joins, keyboard_gives, meets, screen_gets, settles, skips, stays, task_gets, task_gives}
use Rattle.occ_shown.specs.Answers.{entries_in, names_of}
use Rattle.occ_run.specs.declared.progress.Progress.{Progress}
use Rattle.occ_run.specs.declared.progress.Stop.TheVariants as stop
use Rattle.occ_run.specs.declared.stretch.Stretch.{Stretch}
use Rattle.occ_run.specs.Steps.{Drops, StopsAt, TakesIn, TakesThem, first_stop}
use Rattle.occ_run.specs.Telling.{IsBehind}
use Rattle.occ_run.proofs.Staying.{came}

-- ---- one turn

gave : {c : ℕ} {m : Message} {x : End} {a b : Net} → HandsOver c m x a b → b.trace ≡ a.trace
gave (task_gives there w) = refl
gave (keyboard_gives e z q) = refl

got : {pick : ℕ} {offers : ℕ → Bool} {c : ℕ} {m : Message} {x : End} {a b : Net} → Gets pick offers c m x a b → b.trace ≡ a.trace
got (task_gets there w) = refl
got (arm_gets there w q z) = refl
got (screen_gets e) = refl
got (error_gets e) = refl

settled_grows : {bodies : List Body} {n pick : ℕ} {a b : Net} → Settled bodies n pick a b → IsPrefix a.trace b.trace
settled_grows (settles (meets part (joined {c = c} {m = m} {x = x} {y = y} g r))) = (communication c x y m ∷ [], ap (λ l. l ++ communication c x y m ∷ []) (sym (got r ∙ gave g)))
settled_grows (settles (skips {a = a} there w q f)) = prefix_self a.trace
settled_grows (settles (forks {a = a} there w)) = prefix_self a.trace
settled_grows (settles (joins m {a = a} there w among done)) = prefix_self a.trace
settled_grows {a = a} (stays none) = prefix_self a.trace

turn_grows : {p : Program} {c : Choice} {a b : Net} → OneTurn p c a b → IsPrefix a.trace b.trace
turn_grows o = settled_grows o.settles

-- ---- turns in a row

-- the state that a network was in before so many turns
record Grew (old : Past) (net : Net) : Type 0 where
  pub from : Net
  pub state : IsState old from
  pub more : IsPrefix from.trace net.trace

grows_along : (old : Past) (place pick number : ℕ) (m : ℕ) (net : Net) → IsState (after_turns old place pick number m) net → Grew old net
grows_along old place pick number zero net state = record { from = net; state = state; more = prefix_self net.trace }
grows_along old place pick number (suc m) net state =
    let choices : List Choice = choices_from place pick old.choices m in
    let choice : Choice = record { which = place; pick = pick + m } in
    let x = came old.program old.keyboard (choices ++ choice ∷ []) choices choice net state refl in
    let b = grows_along old place pick number m x.from x.replays in
    record { from = b.from; state = b.state; more = prefix_trans b.from.trace x.from.trace net.trace b.more (turn_grows x.turn) }

-- ---- what is told

pub entries_append : (names : Names) (i : ℕ) (xs ys : List Communication) → entries names i (xs ++ ys) ≡ entries names i xs ++ entries names (i + length xs) ys
entries_append names i [] ys = ap (λ n. entries names n ys) (omega arith)
entries_append names i (x ∷ xs) ys =
    let n : (i + 1) + length xs ≡ i + suc (length xs) = omega arith in
    ap (λ l. entry_of names i x ∷ l) (entries_append names (i + 1) xs ys ∙ ap (λ k. entries names (i + 1) xs ++ entries names k ys) n)

pub entries_more : (names : Names) (i : ℕ) (xs ys : List Communication) → IsPrefix xs ys → IsPrefix (entries names i xs) (entries names i ys)
entries_more names i xs ys p = (entries names (i + length xs) p.0, sym (entries_append names i xs p.0) ∙ ap (entries names i) p.1)

-- entries tell their communications
abbrev made_of : Entry → Communication
made_of e = communication e.channel e.sender e.receiver e.message

pub entries_back : (names : Names) (i : ℕ) (xs ys : List Communication) → IsPrefix (entries names i xs) (entries names i ys) → IsPrefix xs ys
entries_back names i [] ys p = (ys, refl)
entries_back names i (x ∷ xs) [] p = absurd (cc (p.1))
entries_back names i (x ∷ xs) (y ∷ ys) p =
    let heads : entry_of names i x ≡ entry_of names i y = cc (p.1) in
    let same : x ≡ y = ap made_of heads in
    let tails : entries names (i + 1) xs ++ p.0 ≡ entries names (i + 1) ys = cc (p.1) in
    let rest = entries_back names (i + 1) xs ys (p.0, tails) in
    (rest.0, ap (λ z. z ∷ (xs ++ rest.0)) same ∙ ap (λ l. y ∷ l) rest.1)

-- ---- under the lock

pub behind_new : (book : Book) (p : Program) (n : Past) (head : Book) (told : Reached) → head ≡ book → told ≡ reached book blank → IsBehind book p n head told
behind_new book p n head told history is =
    record {
      history = history;
      of_it = ap (λ (r : Reached). r.book) is;
      going = ap (λ (r : Reached). r.edition.last) is;
      begins = λ net state. (entries_in p.channels net.trace, ap (λ (r : Reached). r.edition.entries ++ entries_in p.channels net.trace) is);
    }

module _ (book : Book) (p : Program) (old : Past) (head : Book) (told : Reached) (h : IsBehind book p old head told) where
  pub behind_same : (new : Past) → new ≡ old → IsBehind book p new head told
  behind_same new is = subst (λ (n : Past). IsBehind book p n head told) (sym is) h

  -- a process goes out or comes in
  pub behind_marked : (new : Past) (n : ℕ) (is : Bool) → new ≡ with_out old n is → IsBehind book p new head told
  behind_marked new n is e = subst (λ (x : Past). IsBehind book p x head told) (sym e) (record { history = h.history; of_it = h.of_it; going = h.going; begins = h.begins })

  pub behind_turns : (number count pick : ℕ) (new : Past) → SettlesAll old number count pick new → IsBehind book p new head told
  behind_turns number count pick new st =
      subst (λ (x : Past). IsBehind book p x head told) (sym st.is)
      record {
        history = h.history;
        of_it = h.of_it;
        going = h.going;
        begins = λ net state. (
            let g = grows_along old st.place pick number count net state in
            prefix_trans told.edition.entries (entries_in p.channels g.from.trace) (entries_in p.channels net.trace) (h.begins g.from g.state) (entries_more (names_of p.channels) 1 g.from.trace net.trace g.more)
            );
      }

pub behind_in : (book : Book) (p : Program) (old new : Progress) (head : Book) (told : Reached) → IsBehind book p old.network head told → (number count : ℕ) → TakesIn old new number count → IsBehind book p new.network head told
behind_in book p old new head told h number count (inl x) = behind_turns book p old.network head told h number count (length old.network.choices) new.network x.settles
behind_in book p old new head told h number count (inr (inl x)) = behind_marked book p old.network head told h new.network number false x.released
behind_in book p old new head told h number count (inr (inr x)) = behind_marked book p old.network head told h new.network number false x.released

pub behind_done : (book : Book) (p : Program) (old new : Progress) (head : Book) (told : Reached) → IsBehind book p old.network head told → (done : Result Stretch ℕ) → IfOk done (λ s. TakesIn old new s.number s.count)
    → IfErr done (λ number. (new.network ≡ with_out old.network number false) × (new.stop ≡ first_stop old.stop stop.Memory)) → IsBehind book p new.network head told
behind_done book p old new head told h (Ok s) ran refused = behind_in book p old new head told h s.number s.count ran
behind_done book p old new head told h (Err e) ran refused = behind_marked book p old.network head told h new.network e false refused.0
