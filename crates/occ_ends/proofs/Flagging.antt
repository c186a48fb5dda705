-- Flags of processes that are endless.
use Rattle.std.proofs.Common.{◌≡◌, ◌∙◌, ◌⊎◌, inl, inr, refl, sym, ap, subst, Bool, true, false, IsTrue, ℕ, zero, suc, ◌+◌, ◌<◌, ◌≤◌, List, length, arith}
use Rattle.std.specs.Prelude.{replicate, slice_set}
use mathlib.Core.Bool.{true≢false}
use Rattle.occ_term.specs.Frames.{is_held}
use Rattle.occ_machine.specs.Machine.{Body}
use Rattle.occ_machine.specs.declared.task.Task.{Task}
use Rattle.occ_net_replay.specs.Replay.{HasTask, Tasks}
use Rattle.occ_net_replay.proofs.Tables.{set_other, set_same, task_once}
use Rattle.occ_explore_laws.proofs.Lists.{get_some, same_or_other, set_many}
use Rattle.occ_ends.specs.Endless.{AreEndless, AreFlagged, FlagsBelow, IsBelow, IsEndless, StandsInLoop, flag, in_a_loop, as_a_branch, is_set}
use Rattle.occ_ends.proofs.Rounds.{lt_or_le}

-- ---- one flag more

pub flag_same : (flags : List Bool) (k : ℕ) → k < length flags → IsTrue (flag (slice_set flags k true) k)
flag_same flags k h = let x = get_some flags k h in ap is_set (set_same flags k x.0 true x.1)

pub flag_other : (flags : List Bool) (k i : ℕ) → (i ≡ k → ⊥) → flag (slice_set flags k true) i ≡ flag flags i
flag_other flags k i apart = ap is_set (set_other flags k i true apart)

pub flag_kept : (flags : List Bool) (k i : ℕ) → k < length flags → IsTrue (flag flags i) → IsTrue (flag (slice_set flags k true) i)
flag_kept flags k i inside h = elim (same_or_other i k) [
  | inl e ↦ subst (λ x. IsTrue (flag (slice_set flags k true) x)) (sym e) (flag_same flags k inside)
  | inr apart ↦ flag_other flags k i apart ∙ h
]

pub flag_only : (flags : List Bool) (k i : ℕ) → IsTrue (flag (slice_set flags k true) i) → IsTrue (flag flags i) ⊎ (i ≡ k)
flag_only flags k i h = elim (same_or_other i k) [ inl e ↦ inr e | inr apart ↦ inl (sym (flag_other flags k i apart) ∙ h) ]

-- ---- branches one after another

-- so it is where these branches are still to be flagged
pub record Flagging (branches : List ℕ) (n : ℕ) (old : List Bool) (rest : List ℕ) (now : List Bool) : Type 0 where
  pub many : length now ≡ length old
  pub kept : (k : ℕ) → IsTrue (flag old k) → IsTrue (flag now k)
  pub only : (k : ℕ) → IsTrue (flag now k) → IsTrue (flag old k) ⊎ ((n < k) × IsTrue (is_held branches k))
  pub left : (k : ℕ) → IsTrue (is_held rest k) → IsTrue (is_held branches k)
  pub done : (k : ℕ) → n < k → k < length old → IsTrue (is_held branches k) → IsTrue (is_held rest k) ⊎ IsTrue (flag now k)

-- ---- processes one after another

module _ {bodies : List Body} {tasks : Tasks} {n : ℕ} {flags : List Bool} (f : AreFlagged bodies tasks n flags) where
  -- why it is endless
  how : IsEndless bodies tasks n → n < length flags → IsTrue (flag flags n) ⊎ ((t : Task) × HasTask tasks n t × StandsInLoop bodies n t.pc)
  how (in_a_loop body t has there loop) inside = inr (t, there, record { body = body; there = has; loop = loop })
  how (as_a_branch m t there below e) inside = inl (f.begun m n t below.higher there below inside e)

  less_or_this : (k : ℕ) → k < n + 1 → (k < n) ⊎ (k ≡ n)
  less_or_this k h = elim (lt_or_le k n) [ inl lt ↦ inl lt | inr le ↦ inr (omega (arith, h, le)) ]

  -- where nothing is flagged: it is not endless, or has not begun
  pub stays : (n < length flags → IsEndless bodies tasks n → IsTrue (flag flags n)) → ((t : Task) → HasTask tasks n t → IsEndless bodies tasks n → n < length flags → ⊥) → AreFlagged bodies tasks (n + 1) flags
  stays own none =
      record {
        sound = f.sound;
        whole = λ k lt inside e. whole k (less_or_this k lt) inside e;
        begun = λ m k t lt there below inside e. begun m k t (less_or_this m lt) there below inside e;
      }
    where
      whole : (k : ℕ) → (k < n) ⊎ (k ≡ n) → k < length flags → IsEndless bodies tasks k → IsTrue (flag flags k)
      whole k (inl lt) inside e = f.whole k lt inside e
      whole k (inr is) inside e = subst (λ x. IsTrue (flag flags x)) (sym is) (own (omega (arith, inside, is)) (subst (IsEndless bodies tasks) is e))

      begun : (m k : ℕ) (t : Task) → (m < n) ⊎ (m ≡ n) → HasTask tasks m t → IsBelow t.wait m k → k < length flags → IsEndless bodies tasks m → IsTrue (flag flags k)
      begun m k t (inl lt) there below inside e = f.begun m k t lt there below inside e
      begun m k t (inr is) there below inside e =
          absurd (none t (subst (λ x. HasTask tasks x t) is there) (subst (IsEndless bodies tasks) is e) (let h = below.higher in omega (arith, inside, h, is)))

  pub has_none : ((t : Task) → HasTask tasks n t → ⊥) → AreFlagged bodies tasks (n + 1) flags
  has_none none = stays (λ inside e. by (how e inside)) (λ t there e inside. none t there)
    where
      by : IsTrue (flag flags n) ⊎ ((t : Task) × HasTask tasks n t × StandsInLoop bodies n t.pc) → IsTrue (flag flags n)
      by (inl h) = h
      by (inr x) = absurd (none x.0 x.1)

  pub is_not : (t : Task) → HasTask tasks n t → flag flags n ≡ false → (StandsInLoop bodies n t.pc → ⊥) → AreFlagged bodies tasks (n + 1) flags
  is_not t there unflagged none = stays (λ inside e. absurd (never e inside)) (λ s has e inside. never e inside)
    where
      by : IsTrue (flag flags n) ⊎ ((s : Task) × HasTask tasks n s × StandsInLoop bodies n s.pc) → ⊥
      by (inl h) = true≢false (sym h ∙ unflagged)
      by (inr x) = none (subst (λ s. StandsInLoop bodies n s.pc) (task_once tasks n x.1 there) x.2)

      never : IsEndless bodies tasks n → n < length flags → ⊥
      never e inside = by (how e inside)

  pub is_endless : (t : Task) → HasTask tasks n t → IsTrue (flag flags n) ⊎ StandsInLoop bodies n t.pc → IsEndless bodies tasks n
  is_endless t there (inl h) = f.sound n h
  is_endless t there (inr x) = in_a_loop x.body t x.there there x.loop

  -- where it is flagged, and those that it waits for
  pub gets : (t : Task) (new : List Bool) → HasTask tasks n t → n < length flags → IsEndless bodies tasks n → FlagsBelow t.wait n (slice_set flags n true) new → AreFlagged bodies tasks (n + 1) new
  gets t new there inside endless below =
      record {
        sound = λ k h. sound k (below.only k h);
        whole = λ k lt near e. whole k (less_or_this k lt) (omega (arith, near, many)) e;
        begun = λ m k s lt has under near e. begun m k s (less_or_this m lt) has under (omega (arith, near, many)) e;
      }
    where
      many : length new ≡ length flags
      many = below.many ∙ set_many flags n true

      kept : (k : ℕ) → IsTrue (flag flags k) → IsTrue (flag new k)
      kept k h = below.kept k (flag_kept flags n k inside h)

      sound : (k : ℕ) → IsTrue (flag (slice_set flags n true) k) ⊎ IsBelow t.wait n k → IsEndless bodies tasks k
      sound k (inl h) = elim (flag_only flags n k h) [ inl old ↦ f.sound k old | inr is ↦ subst (IsEndless bodies tasks) (sym is) endless ]
      sound k (inr under) = as_a_branch n t there under endless

      whole : (k : ℕ) → (k < n) ⊎ (k ≡ n) → k < length flags → IsEndless bodies tasks k → IsTrue (flag new k)
      whole k (inl lt) near e = kept k (f.whole k lt near e)
      whole k (inr is) near e = subst (λ x. IsTrue (flag new x)) (sym is) (below.kept n (flag_same flags n inside))

      begun : (m k : ℕ) (s : Task) → (m < n) ⊎ (m ≡ n) → HasTask tasks m s → IsBelow s.wait m k → k < length flags → IsEndless bodies tasks m → IsTrue (flag new k)
      begun m k s (inl lt) has under near e = kept k (f.begun m k s lt has under near e)
      begun m k s (inr is) has under near e =
          below.each k
          (subst (λ x. IsBelow x.wait n k) (task_once tasks n (subst (λ x. HasTask tasks x s) is has) there) (subst (λ x. IsBelow s.wait x k) is under))
          (omega (arith, near, set_many flags n true))

-- ---- the start and the end

none_set : (count k : ℕ) → flag (replicate count false) k ≡ false
none_set zero k = refl
none_set (suc count) zero = refl
none_set (suc count) (suc k) = none_set count k

pub no_flags : (bodies : List Body) (tasks : Tasks) (count : ℕ) → AreFlagged bodies tasks 0 (replicate count false)
no_flags bodies tasks count =
    record {
      sound = λ n h. absurd (true≢false (sym h ∙ none_set count n));
      whole = λ n lt. absurd (omega (arith, lt));
      begun = λ m n t lt. absurd (omega (arith, lt));
    }

pub all_flags : {bodies : List Body} {tasks : Tasks} {count : ℕ} {flags : List Bool} → AreFlagged bodies tasks count flags → length flags ≡ length tasks → length flags ≤ count → AreEndless bodies tasks flags
all_flags {bodies} {tasks} {count} {flags} f many all = record { many = many; sound = f.sound; whole = λ n inside e. f.whole n (omega (arith, inside, all)) inside e }
