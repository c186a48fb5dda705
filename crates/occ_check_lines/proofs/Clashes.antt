-- Stretches clash by their parts, where their subscripts are constant, or by a variable that a subscript names.
use Rattle.std.proofs.Common.{◌≡◌, ◌∙◌, ap, refl, List, [], ◌∷◌, Bool, true, false, sym}
use Rattle.std.specs.Prelude.{cond, ◌&&◌, ◌||◌}
use Rattle.occ_term.specs.Values.{Span}
use Rattle.occ_check_meaning.specs.Calls.{meets_one, some_meet}
use Rattle.occ_check_meaning.specs.Items.{are_constant, clash, clashes_with_one, have_common, is_named_by, part_span, some_clash}
use Rattle.occ_check_meaning.specs.Scope.{Stretch}
use Rattle.occ_check_lines.specs.Clash.{fixed_spans, is_named_with, is_one_named}

-- whether the one is constant, the other, they meet, a later one meets, one names the other, a later one does
one_more : (r q meet later named others : Bool)
    → (((r && (q && meet)) || named) || ((r && later) || others)) ≡ ((r && cond q (meet || later) later) || (named || others))
one_more false q meet later named others = refl
one_more true false meet true true others = refl
one_more true false meet true false others = refl
one_more true false meet false true others = refl
one_more true false meet false false others = refl
one_more true true true later named others = refl
one_more true true false true true others = refl
one_more true true false true false others = refl
one_more true true false false named others = refl

meets_fixed : (a b : Span) (c : Bool) (spans : List Span) → meets_one a (cond c (b ∷ spans) spans) ≡ cond c (have_common a b || meets_one a spans) (meets_one a spans)
meets_fixed a b true spans = refl
meets_fixed a b false spans = refl

none_meets : (c : Bool) → false ≡ ((c && false) || false)
none_meets true = refl
none_meets false = refl

with_one : (r : Stretch) (qs : List Stretch) → clashes_with_one r qs ≡ ((are_constant r.subscripts && meets_one (part_span r) (fixed_spans qs)) || is_named_with r qs)
with_one r [] = none_meets (are_constant r.subscripts)
with_one r (q ∷ qs) =
    ap (λ b. clash r q || b) (with_one r qs)
    ∙ one_more (are_constant r.subscripts) (are_constant q.subscripts) (have_common (part_span r) (part_span q)) (meets_one (part_span r) (fixed_spans qs)) (is_named_by r q || is_named_by q r) (is_named_with r qs)
    ∙ ap (λ b. (are_constant r.subscripts && b) || ((is_named_by r q || is_named_by q r) || is_named_with r qs)) (sym (meets_fixed (part_span r) (part_span q) (are_constant q.subscripts) (fixed_spans qs)))

-- whether the first is constant, it meets a later one, it and a later one name one another, later ones meet, and name one another
all_more : (r meet named later others : Bool) → (((r && meet) || named) || (later || others)) ≡ (cond r (meet || later) later || (named || others))
all_more false meet true true others = refl
all_more false meet true false others = refl
all_more false meet false later others = refl
all_more true true named later others = refl
all_more true false true true others = refl
all_more true false true false others = refl
all_more true false false later others = refl

some_fixed : (a : Span) (c : Bool) (spans : List Span) → some_meet (cond c (a ∷ spans) spans) ≡ cond c (meets_one a spans || some_meet spans) (some_meet spans)
some_fixed a true spans = refl
some_fixed a false spans = refl

pub by_both : (rs : List Stretch) → some_clash rs ≡ (some_meet (fixed_spans rs) || is_one_named rs)
by_both [] = refl
by_both (r ∷ rs) =
    (λ i. with_one r rs i || by_both rs i)
    ∙ all_more (are_constant r.subscripts) (meets_one (part_span r) (fixed_spans rs)) (is_named_with r rs) (some_meet (fixed_spans rs)) (is_one_named rs)
    ∙ ap (λ b. b || (is_named_with r rs || is_one_named rs)) (sym (some_fixed (part_span r) (are_constant r.subscripts) (fixed_spans rs)))

pub by_parts : (rs : List Stretch) (spans : List Span) → spans ≡ fixed_spans rs → some_meet spans ≡ true → true ≡ some_clash rs
by_parts rs spans same met = sym (by_both rs ∙ ap (λ b. b || is_one_named rs) (ap some_meet (sym same) ∙ met))

pub by_names : (rs : List Stretch) (spans : List Span) → spans ≡ fixed_spans rs → some_meet spans ≡ false → is_one_named rs ≡ some_clash rs
by_names rs spans same apart = sym (by_both rs ∙ ap (λ b. b || is_one_named rs) (ap some_meet (sym same) ∙ apart))
