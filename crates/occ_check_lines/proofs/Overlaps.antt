-- Spans that end in turn are apart, neighbours that meet are two that meet, and whether two meet does not depend on the order.
use Rattle.std.proofs.Common.{◌≡◌, ◌∙◌, sym, ap, refl, ℕ, ◌+◌, ◌≤◌, List, [], ◌∷◌, Bool, true, false, arith}
use Rattle.std.specs.Prelude.{nat_lt, ◌&&◌, ◌||◌}
use Rattle.std.specs.List.Sorted.{IsPermutation}
use Rattle.std.proofs.lemmas.Bool.Decides.{nat_tests}
use Rattle.occ_term.specs.Values.{Span, span}
use Rattle.occ_check_meaning.specs.Calls.{meets_one, some_meet}
use Rattle.occ_check_meaning.specs.Items.{have_common}
use Rattle.occ_check_lines.specs.Overlap.{end_in_turn, ends_before, neighbours_meet}
use Rattle.occ_check_lines.proofs.AnyPair.{some_pair, some_pair-permuted, some_with}

pub and_first : (a b : Bool) → (a && b) ≡ true → a ≡ true
and_first true b e = refl
and_first false b e = e

pub and_second : (a b : Bool) → (a && b) ≡ true → b ≡ true
and_second true b e = e
and_second false b e = absurd (grind (arith, e))

and_turned : (a b : Bool) → (a && b) ≡ (b && a)
and_turned true true = refl
and_turned true false = refl
and_turned false true = refl
and_turned false false = refl

or_first : (a b c : Bool) → a ≡ true → ((a || b) || c) ≡ true
or_first true b c e = refl
or_first false b c e = absurd (grind (arith, e))

or_last : (a b : Bool) → b ≡ true → (a || b) ≡ true
or_last true b e = refl
or_last false b e = e

-- ---- those that end in turn

apart : (f c o n : ℕ) → f + c ≤ o → have_common (span f c) (span o n) ≡ false
apart f c o n before =
    let past : nat_lt o (f + c) ≡ false = grind (arith, nat_tests, before) in
    ap (λ b. nat_lt f (o + n) && b) past ∙ and_turned (nat_lt f (o + n)) false

ends : (f c o n : ℕ) → ends_before (span f c) (span o n) ≡ true → f + c ≤ o
ends f c o n e = grind (arith, nat_tests, e)

none_later : (f c : ℕ) (b : Span) (rest : List Span) → ends_before (span f c) b ≡ true → end_in_turn (b ∷ rest) ≡ true → meets_one (span f c) (b ∷ rest) ≡ false
none_later f c (span o n) [] before turn = ap (λ b. b || false) (apart f c o n (ends f c o n before))
none_later f c (span o n) (span p m ∷ rest) before turn =
    let here = ends f c o n before in
    let next = ends o n p m (and_first (ends_before (span o n) (span p m)) (end_in_turn (span p m ∷ rest)) turn) in
    let far : ends_before (span f c) (span p m) ≡ true = grind (arith, nat_tests, here, next) in
    ap (λ b. b || meets_one (span f c) (span p m ∷ rest)) (apart f c o n here)
    ∙ none_later f c (span p m) rest far (and_second (ends_before (span o n) (span p m)) (end_in_turn (span p m ∷ rest)) turn)

pub none_meet : (spans : List Span) → end_in_turn spans ≡ true → some_meet spans ≡ false
none_meet [] turn = refl
none_meet (a ∷ []) turn = refl
none_meet (span f c ∷ b ∷ rest) turn =
    ap (λ x. x || some_meet (b ∷ rest)) (none_later f c b rest (and_first (ends_before (span f c) b) (end_in_turn (b ∷ rest)) turn) (and_second (ends_before (span f c) b) (end_in_turn (b ∷ rest)) turn))
    ∙ none_meet (b ∷ rest) (and_second (ends_before (span f c) b) (end_in_turn (b ∷ rest)) turn)

-- ---- neighbours

pub two_meet : (spans : List Span) → neighbours_meet spans ≡ true → some_meet spans ≡ true
two_meet [] met = absurd (grind (arith, met))
two_meet (a ∷ []) met = absurd (grind (arith, met))
two_meet (a ∷ b ∷ rest) met = by (have_common a b) refl (λ later. two_meet (b ∷ rest) later)
  where
    by : (x : Bool) → have_common a b ≡ x → (neighbours_meet (b ∷ rest) ≡ true → some_meet (b ∷ rest) ≡ true) → some_meet (a ∷ b ∷ rest) ≡ true
    by true e further = or_first (have_common a b) (meets_one a rest) (some_meet (b ∷ rest)) e
    by false e further = or_last (meets_one a (b ∷ rest)) (some_meet (b ∷ rest)) (further (sym (ap (λ x. x || neighbours_meet (b ∷ rest)) e) ∙ met))

-- ---- in any order

pub common_turned : (a b : Span) → have_common a b ≡ have_common b a
common_turned (span f c) (span o n) = and_turned (nat_lt f (o + n)) (nat_lt o (f + c))

meets_with : (a : Span) (spans : List Span) → meets_one a spans ≡ some_with have_common a spans
meets_with a [] = refl
meets_with a (b ∷ bs) = ap (λ x. have_common a b || x) (meets_with a bs)

meet_is : (spans : List Span) → some_meet spans ≡ some_pair have_common spans
meet_is [] = refl
meet_is (a ∷ rest) = λ i. meets_with a rest i || meet_is rest i

pub some_meet-permuted : (xs ys : List Span) → IsPermutation xs ys → some_meet xs ≡ some_meet ys
some_meet-permuted xs ys same = meet_is xs ∙ some_pair-permuted have_common common_turned xs ys same ∙ sym (meet_is ys)
