-- Who may take a turn, and at which place.
use Rattle.std.proofs.Common.{◌≡◌, ◌∙◌, refl, sym, ap, subst, Bool, true, false, IsTrue, ℕ, zero, suc, ◌+◌, ◌<◌, ◌≤◌, List, [], ◌∷◌, inl, inr, Some, length, get_or, arith}
use Rattle.std.specs.Prelude.{if◌then◌else◌, slice_get}
use Rattle.std.proofs.lemmas.Bool.{cases_lt}
use Rattle.std.proofs.lemmas.Option.{get_or_from_slice_get, slice_get_within}
use Rattle.occ_machine.specs.Machine.{Body, Point, Stopping, StopsIn, by_place, begins_at, passes_on, stops_here}
use Rattle.occ_machine.specs.declared.instr.Instr.{Instr}
use Rattle.occ_machine.specs.SameStop.{AreAbove, IsRising}
use Rattle.occ_machine.specs.declared.task.Task.{Task}
use Rattle.occ_machine.specs.declared.task.Wait.{Wait}
use Rattle.occ_machine.specs.declared.task.Wait.TheVariants as W
use Rattle.occ_term.specs.Frames.{Variables}
use Rattle.occ_net_replay.specs.Replay.{HasTask, Tasks, goes, may_go, ready_from}
use Rattle.occ_net.specs.Settling.{IsAmong}
use Rattle.occ_net_tables.proofs.OneChange.{get_some}
use Rattle.occ_net_tables.proofs.ReadyLists.{ready_rising}

-- ---- a task that has taken a turn could

begins_may : (w : Wait) (pc : ℕ) (f : Variables) (first : Point) → begins_at w pc f ≡ Some first → IsTrue (may_go w)
begins_may W.Ready pc f first e = refl
begins_may (W.Took arm is m) pc f first e = refl
begins_may (W.Offers c m) pc f first e = absurd cc
begins_may (W.Awaits c) pc f first e = absurd cc
begins_may (W.Chooses pri arms) pc f first e = absurd cc
begins_may (W.Joins ns) pc f first e = absurd cc
begins_may W.Halted pc f first e = absurd cc
begins_may W.Done pc f first e = absurd cc
begins_may (W.Faulted x) pc f first e = absurd cc

stops_may : {code : List (Instr ℕ)} {q : ℕ} {a b : Task} → StopsIn by_place code q a b → IsTrue (may_go a.wait)
stops_may {a = a} (stops_here s h) = begins_may a.wait a.pc a.frame s.first s.begins
stops_may {a = a} (passes_on s h r) = begins_may a.wait a.pc a.frame s.first s.begins

pub turn_may : (body : Body) (a b : Task) → Stopping body a b → IsTrue (may_go a.wait)
turn_may body a b h = stops_may h.stops

-- ---- its place

place_from : (k : ℕ) (tasks : Tasks) (i n : ℕ) (t : Task) → HasTask tasks i t → IsTrue (may_go t.wait) → n ≡ k + i → IsAmong (ready_from k tasks) n
place_from k [] i n t e h q = absurd cc
place_from k (x ∷ tasks) zero n t e h q = record { place = 0; at = subst (λ (b : Bool). slice_get (if b then k ∷ ready_from (k + 1) tasks else ready_from (k + 1) tasks) 0 ≡ Some n) (sym goes_now) (ap (λ m. Some m) first) }
  where
    same : x ≡ Some t
    same = cc

    goes_now : goes x ≡ true
    goes_now = ap goes same ∙ h

    first : k ≡ n
    first = omega arith
place_from k (x ∷ tasks) (suc i) n t e h q = by (goes x) (place_from (k + 1) tasks i n t e h (omega arith))
  where
    by : (b : Bool) → IsAmong (ready_from (k + 1) tasks) n → IsAmong (if b then k ∷ ready_from (k + 1) tasks else ready_from (k + 1) tasks) n
    by true r = record { place = suc r.place; at = r.at }
    by false r = r

pub among_ready : (tasks : Tasks) (n : ℕ) (t : Task) → HasTask tasks n t → IsTrue (may_go t.wait) → IsAmong (ready_from 0 tasks) n
among_ready tasks n t e h = place_from 0 tasks n n t e h (omega arith)

-- a rising list has its numbers at or behind their places
beyond : (n : ℕ) (xs : List ℕ) (i : ℕ) → AreAbove n xs → i < length xs → n + 1 + i ≤ get_or xs i 0
beyond n [] i h l = absurd (omega (arith, l))
beyond n (x ∷ xs) zero h l = let a = h.0 in omega (arith, a)
beyond n (x ∷ xs) (suc i) h l = let a = beyond x xs i h.1 (omega (arith, l)) in let b = h.0 in omega (arith, a, b)

rising_index : (xs : List ℕ) (i : ℕ) → IsRising xs → i < length xs → i ≤ get_or xs i 0
rising_index [] i h l = absurd (omega (arith, l))
rising_index (x ∷ xs) zero h l = omega arith
rising_index (x ∷ xs) (suc i) h l = let a = beyond x xs i h (omega (arith, l)) in omega (arith, a)

-- no place is greater than the number at it
pub place_small : (tasks : Tasks) (place n : ℕ) → slice_get (ready_from 0 tasks) place ≡ Some n → place ≤ n
place_small tasks place n e =
    let within = slice_get_within (ready_from 0 tasks) place n e in
    let index = rising_index (ready_from 0 tasks) place (ready_rising 0 tasks) within in
    let same = get_or_from_slice_get (ready_from 0 tasks) place n 0 e in
    omega (arith, index, same)

-- ---- a number that is among rising ones is found

pub not_missing : (xs : List ℕ) (x i : ℕ) → ((k : ℕ) → k < i → get_or xs k 0 < x) → ((k : ℕ) → i ≤ k → k < length xs → x < get_or xs k 0) → IsAmong xs x → ⊥
not_missing xs x i before behind a =
    let within = slice_get_within xs a.place x a.at in
    let same = get_or_from_slice_get xs a.place x 0 a.at in
    elim (cases_lt a.place i) [ inl h ↦ omega (arith, before a.place h, same) | inr h ↦ omega (arith, behind a.place h within, same) ]

pub found_at : (xs : List ℕ) (i x : ℕ) → i < length xs → get_or xs i 0 ≡ x → slice_get xs i ≡ Some x
found_at xs i x h e = let y = get_some xs i h in y.1 ∙ ap (λ (m : ℕ). Some m) (sym (get_or_from_slice_get xs i y.0 0 y.1) ∙ e)
