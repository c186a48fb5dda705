-- What is evaluated rests on the cells that are read.
use Rattle.std.proofs.Common.{◌≡◌, refl, sym, ap, ◌∙◌, Bool, true, false, IsTrue, ℕ, zero, suc, ◌+◌, ◌*◌, List, [], ◌∷◌, Option, pos, length, arith}
use Rattle.std.specs.Prelude.{◌||◌, if◌then◌else◌, get_or}
use Rattle.std.proofs.lemmas.Bool.Decides.{nat_tests}
use Rattle.occ_term.specs.Messages.{Primitive, Boolean, Int, PartType, OneOf, ManyOf, CountedOf, One, Many, product}
use Rattle.occ_term.specs.Terms.{Expression, Constant, Cell, Component, Letter, Binary, Unary, Negate, BitNot, Not, And, Or, Conversion, Place, place, Subscripts, no_subscripts, then_subscript, Array, Cells, Text, Item, OfOne, OfMany, OfCounted}
use Rattle.occ_term.specs.Values.{Store, Evaluated, Value, Fails, after, subscript, Span, span, first_of, count_of, value_of, span_of, offset_of, values_from, array_of, counted, part_of, holds, binary, unary, converted, AgreeOn}
use Rattle.occ_term.specs.Uses.{Numbers, union, numbers_in, named_by, reads_of, reads_in_place, reads_in_subscripts, reads_of_array, reads_of_item}
use Rattle.occ_term.specs.Typing.{HasType, PlaceHas, SubscriptsLeave, ArrayHas, ItemHas}
use Rattle.occ_term.specs.ReadUses.{ValuesRestOnReads, ItemsRestOnReads}
use Rattle.occ_term.proofs.TypedPlaces.{to_span, in_span, places_lie_within}

after_same : {X Y : Type 0} (x : Evaluated X) (f g : X → Evaluated Y) → ((y : X) → f y ≡ g y) → after x f ≡ after x g
after_same (Value y) f g h = h y
after_same (Fails e) f g h = refl

after_both : {X Y : Type 0} (x x' : Evaluated X) (f g : X → Evaluated Y) → x ≡ x' → ((y : X) → f y ≡ g y) → after x f ≡ after x' g
after_both x x' f g e h = ap (λ z. after z f) e ∙ after_same x' f g h

or_left : (a b : Bool) → IsTrue a → IsTrue (a || b)
or_left true b h = refl
or_left false b h = cc

or_right : (a b : Bool) → IsTrue b → IsTrue (a || b)
or_right true b h = refl
or_right false b h = h

in_first : (a b : Numbers) (s s' : Store) → AgreeOn (union a b) s s' → AgreeOn a s s'
in_first a b s s' h c m = h c (or_left (a c) (b c) m)

in_second : (a b : Numbers) (s s' : Store) → AgreeOn (union a b) s s' → AgreeOn b s s'
in_second a b s s' h c m = h c (or_right (a c) (b c) m)

if_same : {X : Type 0} (b : Bool) (x y z : X) → y ≡ z → (if b then x else y) ≡ (if b then x else z)
if_same true x y z e = refl
if_same false x y z e = e

if_same_first : {X : Type 0} (b : Bool) (x y z : X) → x ≡ y → (if b then x else z) ≡ (if b then y else z)
if_same_first true x y z e = e
if_same_first false x y z e = refl

-- the cells in a row
span_same : (first count : ℕ) (s s' : Store) → ((c : ℕ) → IsTrue (numbers_in (span first count) c) → s c ≡ s' c) → values_from first count s ≡ values_from first count s'
span_same first zero s s' h = refl
span_same first (suc n) s s' h =
    let one : s first ≡ s' first = h first (to_span first (suc n) first (omega arith) (omega arith)) in
    let others : values_from (first + 1) n s ≡ values_from (first + 1) n s' =
    span_same (first + 1) n s s' (λ c m. let r = in_span (first + 1) n c m in h c (to_span first (suc n) c (omega (arith, r.0)) (omega (arith, r.1)))) in
    ap (λ v. v ∷ values_from (first + 1) n s) one ∙ ap (λ vs. s' first ∷ vs) others

module _ (types : ℕ → Option Primitive) (s s' : Store) where
  first_in : (at : Span) → count_of at ≡ product [] → IsTrue (numbers_in at (first_of at))
  first_in (span first count) e = to_span first count first (omega arith) (omega (arith, e))

  component : (p : Place) (t : Primitive) → PlaceHas types p t [] → AgreeOn (named_by p) s s' → span_of p s ≡ span_of p s' → (at : Evaluated Span) → span_of p s ≡ at → value_of (Component p) s ≡ value_of (Component p) s'
  component p t h a same (Fails e) is = ap (λ x. after x (λ at. Value (s (first_of at)))) is ∙ ap (λ x. after x (λ at. Value (s' (first_of at)))) (sym is ∙ same)
  component p t h a same (Value at) is =
      let there = places_lie_within types s p t [] at h is in
      let one : s (first_of at) ≡ s' (first_of at) = a (first_of at) (there.named (first_of at) (first_in at there.many)) in
      ap (λ x. after x (λ at. Value (s (first_of at)))) is ∙ ap Value one ∙ ap (λ x. after x (λ at. Value (s' (first_of at)))) (sym is ∙ same)

  mutual
    same_value : (e : Expression) (t : Primitive) → HasType types e t → AgreeOn (reads_of e) s s' → value_of e s ≡ value_of e s'
    same_value (Constant v) t h a = refl
    same_value (Cell c) t h a = ap Value (a c (grind (arith, nat_tests)))
    same_value (Component p) t h a = component p t h (in_first (named_by p) (reads_in_place p) s s' a) (same_span p t [] h (in_second (named_by p) (reads_in_place p) s s' a)) (span_of p s) refl
    same_value (Letter line text e) t h a = ap (λ x. after x (λ v. after (subscript line (length text) v) (λ i. Value (get_or text i (pos 0))))) (same_value e Int h.2 a)
    same_value (Binary op type line x y) t h a =
        after_both _ _ _ _ (same_value x type h.2 (in_first (reads_of x) (reads_of y) s s' a)) (λ v. ap (λ z. after z (λ w. binary op type line v w)) (same_value y h.0 h.3 (in_second (reads_of x) (reads_of y) s s' a)))
    same_value (Unary Negate type line x) t h a = ap (λ z. after z (λ v. unary Negate type line v)) (same_value x type h.2 a)
    same_value (Unary BitNot type line x) t h a = ap (λ z. after z (λ v. unary BitNot type line v)) (same_value x type h.2 a)
    same_value (Unary Not type line x) t h a = ap (λ z. after z (λ v. unary Not type line v)) (same_value x Boolean h.2 a)
    same_value (And x y) t h a =
        after_both _ _ _ _ (same_value x Boolean h.1 (in_first (reads_of x) (reads_of y) s s' a)) (λ v. if_same_first (holds v) _ _ _ (same_value y Boolean h.2 (in_second (reads_of x) (reads_of y) s s' a)))
    same_value (Or x y) t h a =
        after_both _ _ _ _ (same_value x Boolean h.1 (in_first (reads_of x) (reads_of y) s s' a)) (λ v. if_same (holds v) _ _ _ (same_value y Boolean h.2 (in_second (reads_of x) (reads_of y) s s' a)))
    same_value (Conversion to line x) t h a = ap (λ z. after z (λ v. converted to line v)) (same_value x h.1 h.2 a)

    pub same_span : (p : Place) (t : Primitive) (rest : List ℕ) → PlaceHas types p t rest → AgreeOn (reads_in_place p) s s' → span_of p s ≡ span_of p s'
    same_span (place line first sizes subs) t rest h a = same_offset subs line first sizes rest h.1 a

    same_offset : (subs : Subscripts) (line first : ℕ) (sizes rest : List ℕ) → SubscriptsLeave types subs sizes rest → AgreeOn (reads_in_subscripts subs) s s' → offset_of subs line first sizes s ≡ offset_of subs line first sizes s'
    same_offset no_subscripts line first sizes rest h a = refl
    same_offset (then_subscript e es) line first [] rest h a = refl
    same_offset (then_subscript e es) line first (n ∷ ns) rest h a =
        after_both _ _ _ _ (same_value e Int h.0 (in_first (reads_of e) (reads_in_subscripts es) s s' a)) (λ v. after_same (subscript line n v) _ _ (λ i. same_offset es line (first + i * product ns) ns rest h.1 (in_second (reads_of e) (reads_in_subscripts es) s s' a)))

  array_at : (p : Place) (t : Primitive) (sizes : List ℕ) → PlaceHas types p t sizes → AgreeOn (named_by p) s s' → span_of p s ≡ span_of p s' → (at : Evaluated Span) → span_of p s ≡ at → array_of (Cells p) s ≡ array_of (Cells p) s'
  array_at p t sizes h a same (Fails e) is =
      ap (λ x. after x (λ at. Value (values_from (first_of at) (count_of at) s))) is ∙ ap (λ x. after x (λ at. Value (values_from (first_of at) (count_of at) s'))) (sym is ∙ same)
  array_at p t sizes h a same (Value (span first count)) is =
      let there = places_lie_within types s p t sizes (span first count) h is in
      let all : values_from first count s ≡ values_from first count s' = span_same first count s s' (λ c m. a c (there.named c m)) in
      ap (λ x. after x (λ at. Value (values_from (first_of at) (count_of at) s))) is ∙ ap Value all ∙ ap (λ x. after x (λ at. Value (values_from (first_of at) (count_of at) s'))) (sym is ∙ same)

  same_array : (x : Array) (t : Primitive) (sizes : List ℕ) → ArrayHas types x t sizes → AgreeOn (reads_of_array x) s s' → array_of x s ≡ array_of x s'
  same_array (Cells p) t sizes h a =
      array_at p t sizes h (in_first (named_by p) (reads_in_place p) s s' a) (same_span p t sizes h (in_second (named_by p) (reads_in_place p) s s' a)) (span_of p s) refl
  same_array (Text bytes) t sizes h a = refl

  same_item : (i : Item) (t : PartType) → ItemHas types i t → AgreeOn (reads_of_item i) s s' → part_of i s ≡ part_of i s'
  same_item (OfOne type e) (OneOf t) h a = ap (λ x. after x (λ v. Value (One type v))) (same_value e t h.1 a)
  same_item (OfOne type e) (ManyOf sizes t) h a = absurd h
  same_item (OfOne type e) (CountedOf count t) h a = absurd h
  same_item (OfMany type x) (OneOf t) h a = absurd h
  same_item (OfMany type x) (ManyOf sizes t) h a = ap (λ y. after y (λ vs. Value (Many type vs))) (same_array x t sizes h.1 a)
  same_item (OfMany type x) (CountedOf count t) h a = absurd h
  same_item (OfCounted type line n x) (OneOf t) h a = absurd h
  same_item (OfCounted type line n x) (ManyOf sizes t) h a = absurd h
  same_item (OfCounted type line n x) (CountedOf count t) h a =
      after_both _ _ _ _ (same_value n count h.1 (in_first (reads_of n) (reads_of_array x) s s' a))
      (λ v. ap (λ y. after y (λ vs. counted type line v vs)) (same_array x t (h.2.0 ∷ []) h.2.1 (in_second (reads_of n) (reads_of_array x) s s' a)))

pub values_rest_on_reads : ValuesRestOnReads
values_rest_on_reads types e t s s' h a = same_value types s s' e t h a

pub items_rest_on_reads : ItemsRestOnReads
items_rest_on_reads types i t s s' h a = same_item types s s' i t h a
