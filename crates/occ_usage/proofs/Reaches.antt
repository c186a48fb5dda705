-- What sorted spans and their furthest ends say of a number.
use Rattle.std.proofs.Common.{◌≡◌, ℕ, zero, suc, ◌+◌, ◌<◌, ◌≤◌, max, List, [], ◌∷◌, ◌++◌, drop, get_or, length, true, false, nat_le, nat_lt, refl, sym, ap, ◌∙◌, subst, inl, inr, arith}
use Rattle.std.specs.Prelude.{None, Some, ◌||◌, ◌⊎◌}
use Rattle.std.specs.List.{AllWithin}
use Rattle.std.specs.List.Sorted.{IsNonDecreasingBy, IsPermutation}
use Rattle.std.proofs.lemmas.List.Sorted.{IsPermutation-sym, list_any-IsPermutation}
use Rattle.std.proofs.lemmas.Bool.Decides.{nat_tests}
use Rattle.std.proofs.Math.Seq.{drop-cons}
use Rattle.std.proofs.lemmas.List.{drop_all}
use mathlib.Core.Path.{fun_ext}
use Rattle.occ_term.specs.Uses.{Numbers, Uses, empty_set, no_use, union, with_use}
use Rattle.occ_usage.specs.Noted.{between, use_of, uses_in}
use Rattle.occ_usage.specs.Indexes.{AreFilled, IsWithin, covered, furthest, reaches, used}
use Rattle.occ_usage.specs.declared.index.Span.{Span}
use Rattle.occ_usage.specs.declared.noted.Use.{Use}
use Rattle.occ_usage.specs.declared.noted.Kind.{Kind}
use Rattle.occ_usage.specs.declared.noted.Kind.TheVariants.{Read, Write, Input, Output}
use Rattle.occ_usage.proofs.UseSets.{item_at, or_assoc, or_none}
use Rattle.occ_usage.proofs.Walks.{neither, or_left, or_right}

furthest_least : (m : ℕ) (S : List Span) (k : ℕ) → k < length S → m ≤ get_or (furthest m S) k 0
furthest_least m [] k h = absurd (omega arith)
furthest_least m (s ∷ ss) zero h = omega arith
furthest_least m (s ∷ ss) (suc k) h = let rest = furthest_least (max m s.end) ss k (omega arith) in omega arith

test_max : (n m e : ℕ) → m ≤ n → nat_lt n (max m e) ≡ (nat_lt n e || false)
test_max n m e h = grind (arith, nat_tests)

test_true : (n e : ℕ) → n < e → nat_lt n e ≡ true
test_true n e h = grind (arith, nat_tests)

test_false : (n e : ℕ) → e ≤ n → nat_lt n e ≡ false
test_false n e h = grind (arith, nat_tests)

lt_or_le : (n e : ℕ) → (n < e) ⊎ (e ≤ n)
lt_or_le zero zero = inr (omega arith)
lt_or_le zero (suc e) = inl (omega arith)
lt_or_le (suc n) zero = inr (omega arith)
lt_or_le (suc n) (suc e) = elim (lt_or_le n e) [ inl h ↦ inl (omega arith) | inr h ↦ inr (omega arith) ]

reaches_from : (m n : ℕ) (S : List Span) (k : ℕ) → k < length S → m ≤ n → nat_lt n (get_or (furthest m S) k 0) ≡ reaches S (suc k) n
reaches_from m n [] k h small = absurd (omega arith)
reaches_from m n (s ∷ ss) zero h small = test_max n m s.end small
reaches_from m n (s ∷ ss) (suc k) h small = elim (lt_or_le n s.end) [
  | inl past ↦
      let far = furthest_least (max m s.end) ss k (omega arith) in
      test_true n (get_or (furthest (max m s.end) ss) k 0) (omega arith) ∙ sym (or_left (reaches ss (suc k) n) (test_true n s.end past))
  | inr before ↦
      reaches_from (max m s.end) n ss k (omega arith) (omega arith) ∙ ap (λ b. b || reaches ss (suc k) n) (sym (test_false n s.end before))
]

pub reaches_at : (S : List Span) (k n : ℕ) → k < length S → nat_lt n (get_or (furthest 0 S) k 0) ≡ reaches S (suc k) n
reaches_at S k n h = reaches_from 0 n S k h (omega arith)

pub length-furthest : (m : ℕ) (S : List Span) → length (furthest m S) ≡ length S
length-furthest m [] = refl
length-furthest m (s ∷ ss) = ap suc (length-furthest (max m s.end) ss)

-- ---- numbers that are covered

between_true : (a b c : ℕ) → a ≤ c → c < b → between a b c ≡ true
between_true a b c h k = grind (arith, nat_tests)

between_below : (a b c : ℕ) → c < a → between a b c ≡ false
between_below a b c h = grind (arith, nat_tests)

between_above : (a b c : ℕ) → b ≤ c → between a b c ≡ false
between_above a b c h = grind (arith, nat_tests)

-- an item's place does not hang on what stands for one that isn't there
pub covered_at : (S : List Span) (k : ℕ) (c : ℕ) (d : Span) → k < length S → (get_or S k d).first ≤ c → c < (get_or S k d).end → covered S c ≡ true
covered_at [] k c d h f e = absurd (omega arith)
covered_at (s ∷ ss) zero c d h f e = or_left (covered ss c) (between_true s.first s.end c f e)
covered_at (s ∷ ss) (suc k) c d h f e = or_right (between s.first s.end c) (covered_at ss k c d (omega arith) f e)

pub covered_begun : (S : List Span) (k n : ℕ) → AllWithin (λ s. s.first ≤ n) S 0 k → reaches S k n ≡ true → covered S n ≡ true
covered_begun S zero n begun past = absurd (no_true past)
  where
    no_true : reaches S 0 n ≡ true → ⊥
    no_true h = by S h
      where
        by : (T : List Span) → reaches T 0 n ≡ true → ⊥
        by [] e = cc
        by (t ∷ ts) e = cc
covered_begun [] (suc k) n begun past = absurd cc
covered_begun (s ∷ ss) (suc k) n begun past = elim (lt_or_le n s.end) [
  | inl far ↦ or_left (covered ss n) (between_true s.first s.end n (begun 0 s (omega arith) (omega arith)) far)
  | inr near ↦
      or_right (between s.first s.end n)
      (covered_begun ss k n (λ j d low high. begun (suc j) d (omega arith) (omega arith)) (ap (λ b. b || reaches ss k n) (sym (test_false n s.end near)) ∙ past))
]

pub none_covered : (S : List Span) (k n e c : ℕ) → reaches S k n ≡ false → AllWithin (λ s. e ≤ s.first) S k (length S) → n ≤ c → c < e → covered S c ≡ false
none_covered [] k n e c past later low high = refl
none_covered (s ∷ ss) zero n e c past later low high =
    neither (between_below s.first s.end c (let far : e ≤ s.first = later 0 s (omega arith) (omega arith) in omega arith))
    (none_covered ss 0 n e c (nothing ss) (λ j d l h. later (suc j) d (omega arith) (omega arith)) low high)
  where
    nothing : (T : List Span) → reaches T 0 n ≡ false
    nothing [] = refl
    nothing (t ∷ ts) = refl
none_covered (s ∷ ss) (suc k) n e c past later low high = elim (lt_or_le n s.end) [
  | inl far ↦ absurd (let yes = or_left (reaches ss k n) (test_true n s.end far) in cc)
  | inr near ↦
      neither (between_above s.first s.end c (omega arith))
      (none_covered ss k n e c (ap (λ b. b || reaches ss k n) (sym (test_false n s.end near)) ∙ past) (λ j d l h. later (suc j) d (omega arith) (omega arith)) low high)
]

-- ---- spans by kind

pub used_with : (k : Kind) (a b : Uses) → used k (with_use a b) ≡ union (used k a) (used k b)
used_with Read a b = refl
used_with Write a b = refl
used_with Input a b = refl
used_with Output a b = refl

pub used_none : (k : Kind) → used k no_use ≡ empty_set
used_none Read = refl
used_none Write = refl
used_none Input = refl
used_none Output = refl

empty_between : (a b : ℕ) → b ≤ a → between a b ≡ empty_set
empty_between a b h = fun_ext (λ c. grind (arith, nat_tests))

covered_push : (S : List Span) (s : Span) (c : ℕ) → covered (S ++ s ∷ []) c ≡ (covered S c || between s.first s.end c)
covered_push [] s c = or_none (between s.first s.end c)
covered_push (t ∷ ts) s c = ap (λ b. between t.first t.end c || b) (covered_push ts s c) ∙ sym (or_assoc (between t.first t.end c) (covered ts c) (between s.first s.end c))

-- the spans of a kind, and those of the uses that are left
pub record Spans (k : Kind) (uses : List Use) (i : ℕ) (S : List Span) : Type 0 where
  pub filled : AreFilled S
  pub is : union (covered S) (used k (uses_in (drop i uses))) ≡ used k (uses_in uses)

spans_tail : (k : Kind) (uses : List Use) (i : ℕ) (x : Use) → i < length uses → x ≡ get_or uses i x
    → used k (uses_in (drop i uses)) ≡ union (used k (use_of x.kind (between x.first x.end))) (used k (uses_in (drop (i + 1) uses)))
spans_tail k uses i x lt is =
    let step : i + 1 ≡ suc i = omega arith in
    let tail : drop i uses ≡ x ∷ drop (i + 1) uses = drop-cons uses i x lt ∙ ap (λ y. y ∷ drop (suc i) uses) (sym is) ∙ ap (λ n. x ∷ drop n uses) (sym step) in
    ap (λ us. used k (uses_in us)) tail ∙ used_with k (use_of x.kind (between x.first x.end)) (uses_in (drop (i + 1) uses))

pub spans_skip : (k : Kind) (uses : List Use) (i : ℕ) (x : Use) (S : List Span) → i < length uses → x ≡ get_or uses i x → Spans k uses i S
    → used k (use_of x.kind (between x.first x.end)) ≡ empty_set → Spans k uses (i + 1) S
spans_skip k uses i x S lt is spans none =
    record {
      filled = spans.filled;
      is = ap (λ s. union (covered S) (union s (used k (uses_in (drop (i + 1) uses))))) (sym none) ∙ ap (λ s. union (covered S) s) (sym (spans_tail k uses i x lt is)) ∙ spans.is;
    }

pub spans_more : (k : Kind) (uses : List Use) (i : ℕ) (x : Use) (S T : List Span) (s : Span) → i < length uses → x ≡ get_or uses i x → Spans k uses i S
    → s.first < s.end → used k (use_of x.kind (between x.first x.end)) ≡ between s.first s.end → T ≡ S ++ s ∷ [] → Spans k uses (i + 1) T
spans_more k uses i x S T s lt is spans fills same e =
    let rest = used k (uses_in (drop (i + 1) uses)) in
    subst (λ T. Spans k uses (i + 1) T) (sym e)
    record {
      filled = All-append_one S s spans.filled fills;
      is =
          fun_ext (λ c. ap (λ b. b || rest c) (covered_push S s c) ∙ or_assoc (covered S c) (between s.first s.end c) (rest c)) ∙ ap (λ t. union (covered S) (union t rest)) (sym same)
          ∙ ap (λ t. union (covered S) t) (sym (spans_tail k uses i x lt is)) ∙ spans.is;
    }
  where
    All-append_one : (S : List Span) (s : Span) → AreFilled S → s.first < s.end → AreFilled (S ++ s ∷ [])
    All-append_one [] s all h zero d lt = h
    All-append_one [] s all h (suc j) d lt = absurd (omega arith)
    All-append_one (t ∷ ts) s all h zero d lt = all 0 d (omega arith)
    All-append_one (t ∷ ts) s all h (suc j) d lt = All-append_one ts s (λ k d l. all (suc k) d (omega arith)) h j d (omega arith)

pub spans_none : (k : Kind) (uses : List Use) (i : ℕ) (S : List Span) → length uses ≤ i → Spans k uses i S → covered S ≡ used k (uses_in uses)
spans_none k uses i S h spans =
    fun_ext (λ c. sym (or_none (covered S c))) ∙ ap (λ s. union (covered S) s) (sym (ap (λ us. used k (uses_in us)) (drop_all i uses h) ∙ used_none k)) ∙ spans.is

-- ---- what is answered of a span

pub within_some : (set : Numbers) (first end n : ℕ) → first ≤ n → n < end → set n ≡ true → IsWithin (Some n) set first end
within_some set first end n low high there =
    record { none = λ e. absurd cc; some = λ m e. let same : n ≡ m = some_same e in subst (λ k. (first ≤ k) × (k < end) × (set k ≡ true)) same (low, high, there) }
  where
    some_same : {a b : ℕ} → Some a ≡ Some b → a ≡ b
    some_same e = cc

pub within_none : (set : Numbers) (first end : ℕ) → ((c : ℕ) → first ≤ c → c < end → set c ≡ false) → IsWithin None set first end
within_none set first end h = record { none = λ e. h; some = λ m e. absurd cc }

pub at_most : (a b : ℕ) → nat_le a b ≡ true → a ≤ b
at_most a b h = grind (arith, nat_tests)

pub above : (a b : ℕ) → nat_le a b ≡ false → b < a
above a b h = grind (arith, nat_tests)

pub covered_item : (S : List Span) (k : ℕ) (x : Span) → x ≡ get_or S k x → k < length S → AreFilled S → covered S x.first ≡ true
covered_item S k x is inside filled =
    let same : x.first ≡ (get_or S k x).first = ap (λ s. s.first) is in
    covered_at S k x.first x inside (omega arith) (let full = filled k x inside in omega arith)

pub later_from : (S : List Span) (k e : ℕ) (x : Span) → x ≡ get_or S k x → e ≤ x.first → IsNonDecreasingBy (λ s. s.first) S → AllWithin (λ s. e ≤ s.first) S k (length S)
later_from S k e x is h rises j d low high =
    let same : x.first ≡ (get_or S k x).first = ap (λ s. s.first) is in
    let up : (get_or S k x).first ≤ (get_or S j x).first = rises k j x low high in
    let here : (get_or S j x).first ≡ (get_or S j d).first = ap (λ s. s.first) (item_at S j x d high) in
    omega arith

pub sound_index : (S T : List Span) (k : Kind) (uses : List Use) → IsPermutation S T → covered S ≡ used k (uses_in uses) → covered T ≡ used k (uses_in uses)
sound_index S T k uses moves same = fun_ext (λ c. list_any-IsPermutation (λ s. between s.first s.end c) T S (IsPermutation-sym S T moves)) ∙ same
