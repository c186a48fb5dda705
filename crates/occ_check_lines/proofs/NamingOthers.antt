-- Variables that subscripts name, found by how many variables begin before some cells end, and how many end before they begin.
use Rattle.std.proofs.Common.{◌≡◌, ◌∙◌, sym, ap, refl, arith, ℕ, zero, suc, ◌+◌, ◌<◌, ◌≤◌, List, [], ◌∷◌, map, length, Bool, true, false}
use Rattle.std.specs.Prelude.{cond, nat_eq, nat_lt, ◌&&◌, ◌||◌}
use Rattle.std.specs.List.{sum_by}
use Rattle.std.specs.List.Sorted.{IsPartitionPoint, IsPermutation}
use Rattle.std.proofs.lemmas.Bool.Decides.{nat_tests}
use Rattle.std.proofs.lemmas.List.Sorted.{sum_by-IsPermutation}
use Rattle.std.proofs.lemmas.List.Sums.{sum_by-cons}
use Rattle.occ_term.specs.Messages.{product}
use Rattle.occ_term.specs.Terms.{Expression, Constant, Cell, Component, Letter, Binary, Unary, And, Or, Conversion, Place, place, Subscripts, no_subscripts, then_subscript}
use Rattle.occ_term.specs.Uses.{part_named}
use Rattle.occ_term.specs.Values.{Span, span}
use Rattle.occ_check_meaning.specs.Items.{is_named_by, variable_span}
use Rattle.occ_check_meaning.specs.Scope.{Stretch}
use Rattle.occ_check_lines.specs.Clash.{begins_at, below, ends_at, is_named_with, is_one_named, meets_another, one_names_another, reads_some, shares, some_in_place, some_in_subscripts, variable_spans}
use Rattle.occ_check_lines.proofs.NamedCells.{either_of, named_is, none_share, share_is, share_none, sharing}

-- ---- each stretch with those before it and those behind it

-- a subscript of the stretch names the variable of one of the others
abbrev names_one_of : Stretch → List Stretch → Bool
names_one_of r [] = false
names_one_of r (q ∷ qs) = is_named_by q r || names_one_of r qs

abbrev is_named_in : Stretch → List Stretch → Bool
is_named_in r [] = false
is_named_in r (q ∷ qs) = is_named_by r q || is_named_in r qs

abbrev naming : List Stretch → List Stretch → Bool
naming before [] = false
naming before (r ∷ rs) = (names_one_of r before || names_one_of r rs) || naming (r ∷ before) rs

abbrev across : List Stretch → List Stretch → Bool
across before [] = false
across before (r ∷ rs) = names_one_of r before || across before rs

both_ways : (r : Stretch) (rs : List Stretch) → is_named_with r rs ≡ (names_one_of r rs || is_named_in r rs)
both_ways r [] = refl
both_ways r (q ∷ qs) = ap (λ b. (is_named_by r q || is_named_by q r) || b) (both_ways r qs) ∙ by (is_named_by r q) (is_named_by q r) (names_one_of r qs) (is_named_in r qs)
  where
    by : (a b c d : Bool) → ((a || b) || (c || d)) ≡ ((b || c) || (a || d))
    by true true c d = refl
    by true false true d = refl
    by true false false d = refl
    by false true c d = refl
    by false false c d = refl

across_more : (r : Stretch) (before rs : List Stretch) → across (r ∷ before) rs ≡ (is_named_in r rs || across before rs)
across_more r before [] = refl
across_more r before (q ∷ rs) =
    ap (λ b. (is_named_by r q || names_one_of q before) || b) (across_more r before rs)
    ∙ either_of (is_named_by r q) (names_one_of q before) (is_named_in r rs) (across before rs)

-- whether a later one is named, is named in one, two of the later ones, one before
regrouped : (a n i b c : Bool) → ((b || a) || (i || (n || c))) ≡ (((a || n) || i) || (b || c))
regrouped true n i true c = refl
regrouped true n i false c = refl
regrouped false true i true c = refl
regrouped false true true false c = refl
regrouped false true false false c = refl
regrouped false false true true c = refl
regrouped false false true false c = refl
regrouped false false false true c = refl
regrouped false false false false c = refl

naming_is : (before rs : List Stretch) → naming before rs ≡ (is_one_named rs || across before rs)
naming_is before [] = refl
naming_is before (r ∷ rs) =
    ap (λ b. (names_one_of r before || names_one_of r rs) || b) (naming_is (r ∷ before) rs ∙ ap (λ b. is_one_named rs || b) (across_more r before rs))
    ∙ regrouped (names_one_of r rs) (is_named_in r rs) (is_one_named rs) (names_one_of r before) (across before rs)
    ∙ ap (λ b. (b || is_one_named rs) || (names_one_of r before || across before rs)) (sym (both_ways r rs))

naming_all : (rs : List Stretch) → naming [] rs ≡ is_one_named rs
naming_all rs = naming_is [] rs ∙ ap (λ b. is_one_named rs || b) (none rs) ∙ or_false (is_one_named rs)
  where
    none : (rs : List Stretch) → across [] rs ≡ false
    none [] = refl
    none (r ∷ rs) = none rs

    or_false : (b : Bool) → (b || false) ≡ b
    or_false true = refl
    or_false false = refl

-- ---- cells that pass one of two tests

mutual
  reads_either : (f g : Span → Bool) (e : Expression) → reads_some (λ s. f s || g s) e ≡ (reads_some f e || reads_some g e)
  reads_either f g (Constant v) = refl
  reads_either f g (Cell c) = refl
  reads_either f g (Component p) = place_either f g p
  reads_either f g (Letter line text e) = reads_either f g e
  reads_either f g (Binary op type line x y) = (λ i. reads_either f g x i || reads_either f g y i) ∙ either_of (reads_some f x) (reads_some g x) (reads_some f y) (reads_some g y)
  reads_either f g (Unary op type line x) = reads_either f g x
  reads_either f g (And x y) = (λ i. reads_either f g x i || reads_either f g y i) ∙ either_of (reads_some f x) (reads_some g x) (reads_some f y) (reads_some g y)
  reads_either f g (Or x y) = (λ i. reads_either f g x i || reads_either f g y i) ∙ either_of (reads_some f x) (reads_some g x) (reads_some f y) (reads_some g y)
  reads_either f g (Conversion to line x) = reads_either f g x

  place_either : (f g : Span → Bool) (p : Place) → some_in_place (λ s. f s || g s) p ≡ (some_in_place f p || some_in_place g p)
  place_either f g (place line first sizes subs) =
      let part = part_named subs first sizes (span first (product sizes)) in
      ap (λ b. (f part || g part) || b) (subscripts_either f g subs) ∙ either_of (f part) (g part) (some_in_subscripts f subs) (some_in_subscripts g subs)

  subscripts_either : (f g : Span → Bool) (es : Subscripts) → some_in_subscripts (λ s. f s || g s) es ≡ (some_in_subscripts f es || some_in_subscripts g es)
  subscripts_either f g no_subscripts = refl
  subscripts_either f g (then_subscript e es) =
      (λ i. reads_either f g e i || subscripts_either f g es i) ∙ either_of (reads_some f e) (reads_some g e) (some_in_subscripts f es) (some_in_subscripts g es)

neither : (a b : Bool) → a ≡ false → b ≡ false → (a || b) ≡ false
neither true b e f = e
neither false b e f = f

mutual
  reads_nothing : (e : Expression) → reads_some (λ s. false) e ≡ false
  reads_nothing (Constant v) = refl
  reads_nothing (Cell c) = refl
  reads_nothing (Component p) = place_nothing p
  reads_nothing (Letter line text e) = reads_nothing e
  reads_nothing (Binary op type line x y) = neither (reads_some (λ s. false) x) (reads_some (λ s. false) y) (reads_nothing x) (reads_nothing y)
  reads_nothing (Unary op type line x) = reads_nothing x
  reads_nothing (And x y) = neither (reads_some (λ s. false) x) (reads_some (λ s. false) y) (reads_nothing x) (reads_nothing y)
  reads_nothing (Or x y) = neither (reads_some (λ s. false) x) (reads_some (λ s. false) y) (reads_nothing x) (reads_nothing y)
  reads_nothing (Conversion to line x) = reads_nothing x

  place_nothing : (p : Place) → some_in_place (λ s. false) p ≡ false
  place_nothing (place line first sizes subs) = subscripts_nothing subs

  subscripts_nothing : (es : Subscripts) → some_in_subscripts (λ s. false) es ≡ false
  subscripts_nothing no_subscripts = refl
  subscripts_nothing (then_subscript e es) = neither (reads_some (λ s. false) e) (some_in_subscripts (λ s. false) es) (reads_nothing e) (subscripts_nothing es)

-- cells that one of the variables has too
abbrev shared_by : List Stretch → Span → Bool
shared_by [] s = false
shared_by (q ∷ qs) s = shares s (variable_span q) || shared_by qs s

names_is : (r : Stretch) (qs : List Stretch) → some_in_subscripts (λ s. shared_by qs s) r.subscripts ≡ names_one_of r qs
names_is r [] = subscripts_nothing r.subscripts
names_is r (q ∷ qs) =
    subscripts_either (sharing (variable_span q)) (λ s. shared_by qs s) r.subscripts
    ∙ (λ i. named_is r.subscripts (variable_span q) i || names_is r qs i)

-- ---- how many variables have some of the cells

abbrev bit : Bool → ℕ
bit b = cond b 1 0

abbrev sharers : List Stretch → Span → ℕ
sharers [] s = 0
sharers (q ∷ qs) s = bit (shares s (variable_span q)) + sharers qs s

one_counted : (f k a n : ℕ) → 0 < k → bit (shares (span f k) (span a n)) + bit (nat_lt (ends_at (span a n)) (f + 1)) ≡ bit (nat_lt (begins_at (span a n)) (f + k))
one_counted f k a n some = by (nat_eq n 0) refl
  where
    by : (b : Bool) → nat_eq n 0 ≡ b → bit (shares (span f k) (span a n)) + bit (nat_lt (cond (nat_eq n 0) 0 (a + n)) (f + 1)) ≡ bit (nat_lt (cond (nat_eq n 0) 0 a) (f + k))
    by true e =
        let none : n ≡ 0 = grind (arith, nat_tests, e) in
        let past : nat_lt 0 (f + 1) ≡ true = grind (arith, nat_tests) in
        let before : nat_lt 0 (f + k) ≡ true = grind (arith, nat_tests, some) in
        (λ i. bit (none_share f k a n none i) + bit (nat_lt (cond (e i) 0 (a + n)) (f + 1))) ∙ ap (λ b. 0 + bit b) past
        ∙ sym (ap (λ c. bit (nat_lt (cond c 0 a) (f + k))) e ∙ ap bit before)
    by false e =
        let others : 0 < n = grind (arith, nat_tests, e) in
        (λ i. bit (share_is f k a n some others i) + bit (nat_lt (cond (e i) 0 (a + n)) (f + 1))) ∙ at (nat_lt f (a + n)) refl
        ∙ sym (ap (λ c. bit (nat_lt (cond c 0 a) (f + k))) e)
      where
        first : (b : Bool) → bit (b && true) + 0 ≡ bit b
        first true = refl
        first false = refl

        last : (b : Bool) → bit (b && false) + 1 ≡ 1
        last true = refl
        last false = refl

        at : (c : Bool) → nat_lt f (a + n) ≡ c → bit (nat_lt a (f + k) && nat_lt f (a + n)) + bit (nat_lt (a + n) (f + 1)) ≡ bit (nat_lt a (f + k))
        at true g =
            let over : nat_lt (a + n) (f + 1) ≡ false = grind (arith, nat_tests, g) in
            (λ i. bit (nat_lt a (f + k) && g i) + bit (over i)) ∙ first (nat_lt a (f + k))
        at false g =
            let over : nat_lt (a + n) (f + 1) ≡ true = grind (arith, nat_tests, g) in
            let before : nat_lt a (f + k) ≡ true = grind (arith, nat_tests, g, some) in
            (λ i. bit (nat_lt a (f + k) && g i) + bit (over i)) ∙ last (nat_lt a (f + k)) ∙ sym (ap bit before)

-- where variables begin and end, so many of them below a limit
abbrev begun : ℕ → List Stretch → ℕ
begun limit rs = below limit (map begins_at (variable_spans rs))

abbrev over : ℕ → List Stretch → ℕ
over limit rs = below limit (map ends_at (variable_spans rs))

counted : (f k : ℕ) (rs : List Stretch) → 0 < k → sharers rs (span f k) + over (f + 1) rs ≡ begun (f + k) rs
counted f k [] some = refl
counted f k (r ∷ rs) some =
    let one : bit (shares (span f k) (variable_span r)) + bit (nat_lt (ends_at (variable_span r)) (f + 1)) ≡ bit (nat_lt (begins_at (variable_span r)) (f + k)) =
    one_counted f k r.first (product r.sizes) some in
    let rest : sharers rs (span f k) + over (f + 1) rs ≡ begun (f + k) rs = counted f k rs some in
    sums (bit (shares (span f k) (variable_span r))) (sharers rs (span f k)) (bit (nat_lt (ends_at (variable_span r)) (f + 1))) (over (f + 1) rs) (bit (nat_lt (begins_at (variable_span r)) (f + k))) (begun (f + k) rs) one rest
  where
    sums : (a b c d e f : ℕ) → a + c ≡ e → b + d ≡ f → (a + b) + (c + d) ≡ e + f
    sums a b c d e f h k = omega (arith, h, k)

some_of : (m n : ℕ) → (nat_lt 0 m || nat_lt 0 n) ≡ nat_lt 0 (m + n)
some_of m n = by (nat_lt 0 m) refl
  where
    by : (b : Bool) → nat_lt 0 m ≡ b → (b || nat_lt 0 n) ≡ nat_lt 0 (m + n)
    by true e = grind (arith, nat_tests, e)
    by false e = grind (arith, nat_tests, e)

shared_is : (rs : List Stretch) (s : Span) → shared_by rs s ≡ nat_lt 0 (sharers rs s)
shared_is [] s = refl
shared_is (r ∷ rs) s = (λ i. some_is (shares s (variable_span r)) i || shared_is rs s i) ∙ some_of (bit (shares s (variable_span r))) (sharers rs s)
  where
    some_is : (b : Bool) → b ≡ nat_lt 0 (bit b)
    some_is true = refl
    some_is false = refl

none_shared : (rs : List Stretch) (f k : ℕ) → k ≡ 0 → shared_by rs (span f k) ≡ false
none_shared [] f k none = refl
none_shared (r ∷ rs) f k none = neither (shares (span f k) (variable_span r)) (shared_by rs (span f k)) (share_none f k r.first (product r.sizes) none) (none_shared rs f k none)

-- ---- stretches whose variables begin and end as the two lists say, in any order

record Counted (firsts ends : List ℕ) (before rs : List Stretch) : Type 0 where
  begun_is : (limit : ℕ) → below limit firsts ≡ begun limit before + begun limit rs
  over_is : (limit : ℕ) → below limit ends ≡ over limit before + over limit rs

counted_next : (firsts ends : List ℕ) (before : List Stretch) (r : Stretch) (rs : List Stretch) → Counted firsts ends before (r ∷ rs) → Counted firsts ends (r ∷ before) rs
counted_next firsts ends before r rs all =
    record {
      begun_is = λ limit. all.begun_is limit ∙ moved (begun limit before) (bit (nat_lt (begins_at (variable_span r)) limit)) (begun limit rs);
      over_is = λ limit. all.over_is limit ∙ moved (over limit before) (bit (nat_lt (ends_at (variable_span r)) limit)) (over limit rs);
    }
  where
    moved : (a b c : ℕ) → a + (b + c) ≡ (b + a) + c
    moved a b c = omega arith

one_later : (own ended begun before after : ℕ) → begun ≡ ((before + own) + after) + ended → nat_lt (own + ended) begun ≡ nat_lt 0 (before + after)
one_later own ended begun before after is = by (nat_lt 0 (before + after)) refl
  where
    by : (b : Bool) → nat_lt 0 (before + after) ≡ b → nat_lt (own + ended) begun ≡ b
    by true e = grind (arith, nat_tests, e, is)
    by false e = grind (arith, nat_tests, e, is)

meets_is : (firsts ends : List ℕ) (before : List Stretch) (r : Stretch) (rs : List Stretch) → Counted firsts ends before (r ∷ rs)
    → (s : Span) → meets_another firsts ends (variable_span r) s ≡ (shared_by before s || shared_by rs s)
meets_is firsts ends before r rs all (span f k) = by (nat_eq k 0) refl
  where
    own : ℕ
    own = bit (shares (span f k) (variable_span r))

    by : (b : Bool) → nat_eq k 0 ≡ b → cond (nat_eq k 0) false (nat_lt (bit (shares (span f k) (variable_span r)) + below (f + 1) ends) (below (f + k) firsts)) ≡ (shared_by before (span f k) || shared_by rs (span f k))
    by true e =
        let none : k ≡ 0 = grind (arith, nat_tests, e) in
        ap (λ b. cond b false (nat_lt (bit (shares (span f k) (variable_span r)) + below (f + 1) ends) (below (f + k) firsts))) e
        ∙ sym (neither (shared_by before (span f k)) (shared_by rs (span f k)) (none_shared before f k none) (none_shared rs f k none))
    by false e =
        let some : 0 < k = grind (arith, nat_tests, e) in
        let earlier : sharers before (span f k) + over (f + 1) before ≡ begun (f + k) before = counted f k before some in
        let later : (bit (shares (span f k) (variable_span r)) + sharers rs (span f k)) + over (f + 1) (r ∷ rs) ≡ begun (f + k) (r ∷ rs) = counted f k (r ∷ rs) some in
        ap (λ b. cond b false (nat_lt (bit (shares (span f k) (variable_span r)) + below (f + 1) ends) (below (f + k) firsts))) e
        ∙ one_later (bit (shares (span f k) (variable_span r))) (below (f + 1) ends) (below (f + k) firsts) (sharers before (span f k)) (sharers rs (span f k))
        (total (sharers before (span f k)) (bit (shares (span f k) (variable_span r))) (sharers rs (span f k)) (over (f + 1) before) (over (f + 1) (r ∷ rs)) (begun (f + k) before) (begun (f + k) (r ∷ rs)) (below (f + k) firsts) (below (f + 1) ends) earlier later (all.begun_is (f + k)) (all.over_is (f + 1)))
        ∙ sym ((λ i. shared_is before (span f k) i || shared_is rs (span f k) i) ∙ some_of (sharers before (span f k)) (sharers rs (span f k)))
      where
        total : (a b c ea ec ba bc firsts ends : ℕ) → a + ea ≡ ba → (b + c) + ec ≡ bc → firsts ≡ ba + bc → ends ≡ ea + ec → firsts ≡ ((a + b) + c) + ends
        total a b c ea ec ba bc firsts ends h k l m = omega (arith, h, k, l, m)

naming_sorted : (firsts ends : List ℕ) (before rs : List Stretch) → Counted firsts ends before rs → one_names_another firsts ends rs ≡ naming before rs
naming_sorted firsts ends before [] all = refl
naming_sorted firsts ends before (r ∷ rs) all =
    λ i. (ap (λ test. some_in_subscripts test r.subscripts) (λ j s. meets_is firsts ends before r rs all s j)
    ∙ subscripts_either (λ s. shared_by before s) (λ s. shared_by rs s) r.subscripts
    ∙ (λ j. names_is r before j || names_is r rs j)) i
    || naming_sorted firsts ends (r ∷ before) rs (counted_next firsts ends before r rs all) i

below_is : (limit : ℕ) (ns : List ℕ) → below limit ns ≡ sum_by (λ n. cond (nat_lt n limit) 1 0) ns
below_is limit [] = refl
below_is limit (n ∷ ns) = ap (λ m. cond (nat_lt n limit) 1 0 + m) (below_is limit ns) ∙ sym (sum_by-cons (λ n. cond (nat_lt n limit) 1 0) n ns)

below_permuted : (limit : ℕ) (ms ns : List ℕ) → IsPermutation ms ns → below limit ns ≡ below limit ms
below_permuted limit ms ns same = below_is limit ns ∙ sum_by-IsPermutation (λ n. cond (nat_lt n limit) 1 0) ms ns same ∙ sym (below_is limit ms)

pub named_by_sorted : (rs : List Stretch) (begins firsts stops ends : List ℕ) → begins ≡ map begins_at (variable_spans rs) → stops ≡ map ends_at (variable_spans rs)
    → IsPermutation begins firsts → IsPermutation stops ends → one_names_another firsts ends rs ≡ is_one_named rs
named_by_sorted rs begins firsts stops ends begin stop same alike =
    naming_sorted firsts ends [] rs
    (record {
      begun_is = λ limit. below_permuted limit begins firsts same ∙ ap (below limit) begin ∙ from_none (begun limit rs);
      over_is = λ limit. below_permuted limit stops ends alike ∙ ap (below limit) stop ∙ from_none (over limit rs);
    })
    ∙ naming_all rs
  where
    from_none : (n : ℕ) → n ≡ 0 + n
    from_none n = omega arith

-- ---- where a sorted list passes the limit

passed : (b : Bool) → b ≡ true → bit b ≡ 1
passed b e = ap bit e

passed_over : (b : Bool) → b ≡ false → bit b ≡ 0
passed_over b e = ap bit e

pub point_below : (limit : ℕ) (ns : List ℕ) (i : ℕ) → i ≤ length ns → IsPartitionPoint (λ n. nat_lt n limit ≡ true) (λ n. nat_lt n limit ≡ false) ns i → i ≡ below limit ns
point_below limit [] i within point = omega (arith, within)
point_below limit (n ∷ ns) zero within point =
    let first = passed_over (nat_lt n limit) (point.1 0 n (omega arith) (omega arith)) in
    let rest : 0 ≡ below limit ns = point_below limit ns 0 (omega arith) ((λ k d low high. absurd (omega (arith, high))), (λ k d low high. point.1 (suc k) d (omega arith) (omega (arith, high)))) in
    omega (arith, first, rest)
point_below limit (n ∷ ns) (suc i) within point =
    let first = passed (nat_lt n limit) (point.0 0 n (omega arith) (omega arith)) in
    let rest : i ≡ below limit ns =
    point_below limit ns i (omega (arith, within)) ((λ k d low high. point.0 (suc k) d (omega arith) (omega (arith, high))), (λ k d low high. point.1 (suc k) d (omega (arith, low)) (omega (arith, high)))) in
    omega (arith, first, rest)
