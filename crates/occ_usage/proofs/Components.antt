-- The components that constant subscripts name, step by step.
use Rattle.std.proofs.Common.{◌≡◌, ℕ, ℤ, suc, pos, negsuc, ◌+◌, ◌*◌, ◌/◌, ◌<◌, ◌≤◌, ◌^◌, List, [], ◌∷◌, drop, get_or, map, length, Bool, true, false, refl, sym, ap, ◌∙◌, subst, arith, rules}
use Rattle.std.specs.Prelude.{Option, Some, None, if◌then◌else◌}
use Rattle.std.proofs.Math.Nat.{mul-le-mul_right, suc-mul, mul-div_cancel_left}
use Rattle.std.proofs.Math.Seq.{drop-cons}
use Rattle.std.proofs.lemmas.Bool.Decides.{nat_tests}
use Rattle.std.proofs.lemmas.List.{drop_all, length-map}
use Rattle.occ_term.specs.Terms as T
use Rattle.occ_term.specs.Messages.{product}
use Rattle.occ_term.specs.Values.{Evaluated, Value, Fails, Span, span, value_of}
use Rattle.occ_term.specs.Uses.{constant_subscript, components, components_of, is_constant, on_index, part_named, subscript_value}
use Rattle.occ_usage.specs.Noted.{on_component, span_named}
use Rattle.occ_term.specs.View.{expression_of, place_of, subscripts}
use Rattle.occ_term.specs.declared.expression.TermExpr.{TermExpr, the_lemmas}
use Rattle.occ_term.specs.declared.expression.Place.{Place}
use Rattle.occ_usage.specs.declared.places.Span.{Span as CodeSpan}

pub product_next : (sizes : List ℕ) (i : ℕ) → i < length sizes → product (drop i sizes) ≡ get_or sizes i 0 * product (drop (i + 1) sizes)
product_next sizes i h = let next : i + 1 ≡ suc i = omega arith in ap product (drop-cons sizes i 0 h) ∙ ap (λ k. get_or sizes i 0 * product (drop k sizes)) (sym next)

-- ---- subscripts within their size

below_size : (line size i : ℕ) (v : Evaluated ℤ) → subscript_value line size v ≡ Some i → i < size
below_size line size i (Value (pos n)) e = grind (arith, nat_tests)
below_size line size i (Value (negsuc n)) e = cc
below_size line size i (Fails f) e = cc

pub constant_below : (e : T.Expression) (size i : ℕ) → constant_subscript e size ≡ Some i → i < size
constant_below e size i h = by (is_constant e) refl
  where
    by : (b : Bool) → is_constant e ≡ b → i < size
    by true k = below_size 0 size i (value_of e (λ c. pos 0)) (ap (λ (b : Bool). if b then subscript_value 0 size (value_of e (λ c. pos 0)) else None) (sym k) ∙ h)
    by false k = let none : None ≡ Some i = ap (λ (b : Bool). if b then subscript_value 0 size (value_of e (λ c. pos 0)) else None) (sym k) ∙ h in cc

-- ---- one step through the subscripts

-- the subscripts from the k-th on name, in this span, what the place names
pub record Names (place : Place) (whole : CodeSpan) (k : ℕ) (sizes : List ℕ) (s : CodeSpan) : Type 0 where
  pub is : part_named (subscripts (map expression_of (drop k place.subscripts))) s.first sizes (span whole.first whole.count) ≡ span_named (place_of place)
  pub count : s.count ≡ product sizes
  pub bound : s.first + s.count < 2 ^ 33

pub place_seen : (p : Place) → place_of p ≡ T.place p.line p.first p.sizes (subscripts (map expression_of p.subscripts))
place_seen p = search (rules, the_lemmas)

abbrev code_span : ℕ → ℕ → CodeSpan
code_span first count = record { first = first; count = count }

some_same : {a b : CodeSpan} → Some a ≡ Some b → a ≡ b
some_same e = cc

one_more : (size i p : ℕ) → i < size → i * p + p ≤ size * p
one_more size i p within = omega (arith, mul-le-mul_right {m = suc i} {n = size} p within, suc-mul i p)

abbrev named_next : Place → CodeSpan → ℕ → List ℕ → CodeSpan → ℕ → Option ℕ → Span
named_next place whole k others s size o =
    on_index o (λ i. part_named (subscripts (map expression_of (drop (k + 1) place.subscripts))) (s.first + i * product others) others (span whole.first whole.count)) (span whole.first whole.count)

pub names_next : (place : Place) (whole : CodeSpan) (k : ℕ) (sizes others : List ℕ) (s part : CodeSpan) (x : TermExpr) (size : ℕ) → k < length place.subscripts → x ≡ get_or place.subscripts k x
    → sizes ≡ size ∷ others → Names place whole k sizes s → Some part ≡ on_component (constant_subscript (expression_of x) size) s size → Names place whole (k + 1) others part
names_next place whole k sizes others s part x size lt is e names gives = by (constant_subscript (expression_of x) size) refl
  where
    seen : named_next place whole k others s size (constant_subscript (expression_of x) size) ≡ span_named (place_of place)
    seen =
        let next : k + 1 ≡ suc k = omega arith in
        ap (λ j. on_index (constant_subscript (expression_of x) size) (λ i. part_named (subscripts (map expression_of (drop j place.subscripts))) (s.first + i * product others) others (span whole.first whole.count)) (span whole.first whole.count)) next
        ∙ ap (λ y. part_named (subscripts (map expression_of (y ∷ drop (suc k) place.subscripts))) s.first (size ∷ others) (span whole.first whole.count)) is
        ∙ ap (λ ys. part_named (subscripts (map expression_of ys)) s.first (size ∷ others) (span whole.first whole.count)) (sym (drop-cons place.subscripts k x lt))
        ∙ ap (λ ns. part_named (subscripts (map expression_of (drop k place.subscripts))) s.first ns (span whole.first whole.count)) (sym e)
        ∙ names.is

    by : (o : Option ℕ) → constant_subscript (expression_of x) size ≡ o → Names place whole (k + 1) others part
    by None f = let no : Some part ≡ None = gives ∙ ap (λ o. on_component o s size) f in absurd cc
    by (Some i) f =
        let below : i < size = constant_below (expression_of x) size i f in
        let all : s.count ≡ size * product others = names.count ∙ ap product e in
        let count : s.count / size ≡ product others = ap (λ n. n / size) all ∙ mul-div_cancel_left (product others) {n = size} (omega arith) in
        let same : part ≡ record { first = s.first + i * (s.count / size); count = s.count / size } = some_same (gives ∙ ap (λ o. on_component o s size) f) in
        let fits : i * product others + product others ≤ size * product others = one_more size i (product others) below in
        let bound : s.first + s.count < 2 ^ 33 = names.bound in
        let there : record { first = s.first + i * product others; count = product others } ≡ part = ap (λ n. code_span (s.first + i * n) n) (sym count) ∙ sym same in
        subst (λ r. Names place whole (k + 1) others r) there
        record { is = sym (ap (λ o. named_next place whole k others s size o) f) ∙ seen; count = refl; bound = omega arith }

-- ---- the components of what so many subscripts name

components_drop : (es : List T.Expression) (sizes : List ℕ) → product (drop (length es) sizes) ≡ components (subscripts es) sizes
components_drop [] [] = refl
components_drop [] (n ∷ ns) = refl
components_drop (e ∷ es) [] = drop_none (length es)
  where
    drop_none : (k : ℕ) → product (drop (suc k) []) ≡ 1
    drop_none k = refl
components_drop (e ∷ es) (n ∷ ns) = components_drop es ns

pub cells_left : (p : Place) → product (drop (length p.subscripts) p.sizes) ≡ components_of (T.Cells (place_of p))
cells_left p =
    ap (λ k. product (drop k p.sizes)) (sym (length-map p.subscripts expression_of)) ∙ components_drop (map expression_of p.subscripts) p.sizes
    ∙ ap (λ q. components_of (T.Cells q)) (sym (place_seen p))

pub one_left : (p : Place) → length p.sizes ≤ length p.subscripts → 1 ≡ components_of (T.Cells (place_of p))
one_left p h = ap product (sym (drop_all (length p.subscripts) p.sizes h)) ∙ cells_left p
