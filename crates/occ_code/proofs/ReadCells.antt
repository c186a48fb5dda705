-- Evaluation looks only at cells that are read.
use Rattle.std.specs.Prelude.{nat_eq, get_or, nat_abs, int_le, ◌&&◌, ◌+ℤ◌, ◌||◌, if◌then◌else◌}
use Rattle.std.proofs.lemmas.Bool.Decides.{nat_tests}
use Rattle.std.proofs.Common.{◌≡◌, ◌∙◌, ℕ, zero, suc, pos, ◌+◌, ◌*◌, Bool, true, false, IsTrue, List, [], ◌∷◌, length, Option, Some, refl, ap, arith}
use Rattle.occ_term.specs.Messages.{product}
use Rattle.occ_term.specs.declared.primitive.Primitive.{Primitive}
use Rattle.occ_term.specs.declared.primitive.Primitive.TheVariants.{Int}
use Rattle.occ_term.specs.declared.fault.FaultKind.TheVariants.{Count}
use Rattle.occ_term.specs.declared.expression.Monadic.{Monadic}
use Rattle.occ_term.specs.declared.expression.Monadic.TheVariants.{Negate, BitNot, Not}
use Rattle.occ_term.specs.declared.protocol.PartType.{PartType}
use Rattle.occ_term.specs.declared.protocol.Protocol.{Protocol}
use Rattle.occ_term.specs.declared.protocol.PartType.TheVariants.{One as OneOf, Many as ManyOf, Counted as CountedOf}
use Rattle.occ_term.specs.declared.message.Part.TheVariants.{One, Many}
use Rattle.occ_term.specs.Terms.{Expression, Constant, Cell, Component, Letter, Binary, Unary, And, Or, Conversion, Place, place, Subscripts, no_subscripts, then_subscript, Array, Cells, Text, Item, OfOne, OfMany, OfCounted, Target, Into, IntoCounted, Replicator, replicator}
use Rattle.occ_term.specs.Values.{Store, Evaluated, Value, Fails, after, checked, holds, binary, unary, converted, subscript, counted, Span, span, first_of, count_of, value_of, span_of, offset_of, values_from, array_of, part_of, parts_of, AgreeOn}
use Rattle.occ_term.specs.Storing.{At, AtCounted, spot_of, spots_of, indices, indices_of}
use Rattle.occ_term.specs.Uses.{Numbers, union, numbers_in, named_by, reads_of, reads_in_place, reads_in_subscripts, reads_of_array, reads_of_item, reads_of_items, uses_of_target, uses_of_targets, uses_of_replicator}
use Rattle.occ_term.specs.Typing.{HasType, PlaceHas, SubscriptsLeave, ArrayHas, ItemHas, TargetHas}
use Rattle.occ_term.specs.TermTyping.{Declared, ItemsHave, TargetsHave, ReplicatorHas, ChannelHas}
use Rattle.occ_term.proofs.TypedPlaces.{offset_within, places_lie_within, to_span, in_span}

pub same_cell : (c : ℕ) → IsTrue (nat_eq c c)
same_cell c = grind (arith, nat_tests)

pub or_left : (a b : Bool) → IsTrue a → IsTrue (a || b)
or_left true b h = refl
or_left false b h = cc

pub or_right : (a b : Bool) → IsTrue b → IsTrue (a || b)
or_right true b h = refl
or_right false b h = h

pub after_each : {X Y : Type 0} (v : Evaluated X) (f g : X → Evaluated Y) → ((x : X) → v ≡ Value x → f x ≡ g x) → after v f ≡ after v g
after_each (Value x) f g k = k x refl
after_each (Fails e) f g k = refl

pub after_same : {X Y : Type 0} (v v' : Evaluated X) (f g : X → Evaluated Y) → v ≡ v' → ((x : X) → v' ≡ Value x → f x ≡ g x) → after v f ≡ after v' g
after_same v v' f g e k = ap (λ w. after w f) e ∙ after_each v' f g k

pub operand : (types : ℕ → Option Primitive) (op : Monadic) (type : Primitive) (line : ℕ) (a : Expression) (t : Primitive) → HasType types (Unary op type line a) t → (u : Primitive) × HasType types a u
operand types Negate type line a t h = (type, h.2)
operand types BitNot type line a t h = (type, h.2)
operand types Not type line a t h = (_, h.2)

if_same : {X : Type 0} (b : Bool) (x x' y y' : X) → x ≡ x' → y ≡ y' → (if b then x else y) ≡ (if b then x' else y')
if_same true x x' y y' p q = p
if_same false x x' y y' p q = q

module _ (types : ℕ → Option Primitive) (s s' : Store) where
  abbrev pub SameOn : Numbers → Type 0
  SameOn a = AgreeOn a s s'

  pub on_left : (a b : Numbers) → SameOn (union a b) → SameOn a
  on_left a b h c m = h c (or_left (a c) (b c) m)

  pub on_right : (a b : Numbers) → SameOn (union a b) → SameOn b
  on_right a b h c m = h c (or_right (a c) (b c) m)

  values_same : (first n : ℕ) → SameOn (numbers_in (span first n)) → values_from first n s ≡ values_from first n s'
  values_same first zero h = refl
  values_same first (suc n) h =
      let here = h first (to_span first (suc n) first (omega arith) (omega arith)) in
      let later = values_same (first + 1) n (λ c m. let (l, g) = in_span (first + 1) n c m in h c (to_span first (suc n) c (omega arith) (omega arith))) in
      rw (here, later) refl

  span_named : (p : Place) (t : Primitive) (rest : List ℕ) (a : Span) → PlaceHas types p t rest → span_of p s' ≡ Value a → SameOn (named_by p) → SameOn (numbers_in a)
  span_named p t rest a h e k c m = k c ((places_lie_within types s' p t rest a h e).named c m)

  first_same : (p : Place) (t : Primitive) (a : Span) → PlaceHas types p t [] → span_of p s' ≡ Value a → SameOn (named_by p) → s (first_of a) ≡ s' (first_of a)
  first_same p t (span first count) h e k =
      let w = places_lie_within types s' p t [] (span first count) h e in
      let one : count ≡ 1 = w.many in
      k first (w.named first (to_span first count first (omega arith) (omega (arith, one))))

  mutual
    pub value_same : (e : Expression) (t : Primitive) → HasType types e t → SameOn (reads_of e) → value_of e s ≡ value_of e s'
    value_same (Constant v) t h k = refl
    value_same (Cell c) t h k = ap Value (k c (same_cell c))
    value_same (Component p) t h k =
        after_same (span_of p s) (span_of p s') (λ a. Value (s (first_of a))) (λ a. Value (s' (first_of a))) (place_same p t [] h (on_right (named_by p) (reads_in_place p) k))
        (λ a e. ap Value (first_same p t a h e (on_left (named_by p) (reads_in_place p) k)))
    value_same (Letter line text e) t h k = ap (λ w. after w (λ v. after (subscript line (length text) v) (λ i. Value (get_or text i (pos 0))))) (value_same e Int h.2 k)
    value_same (Binary op type line a b) t h k =
        after_same (value_of a s) (value_of a s') (λ x. after (value_of b s) (λ y. binary op type line x y)) (λ x. after (value_of b s') (λ y. binary op type line x y))
        (value_same a type h.2 (on_left (reads_of a) (reads_of b) k))
        (λ x e. ap (λ w. after w (λ y. binary op type line x y)) (value_same b h.0 h.3 (on_right (reads_of a) (reads_of b) k)))
    value_same (Unary op type line a) t h k = let u = operand types op type line a t h in ap (λ w. after w (λ x. unary op type line x)) (value_same a u.0 u.1 k)
    value_same (And a b) t h k =
        after_same (value_of a s) (value_of a s') (λ x. if holds x then value_of b s else Value (pos 0)) (λ x. if holds x then value_of b s' else Value (pos 0)) (value_same a _ h.1 (on_left (reads_of a) (reads_of b) k))
        (λ x e. if_same (holds x) (value_of b s) (value_of b s') (Value (pos 0)) (Value (pos 0)) (value_same b _ h.2 (on_right (reads_of a) (reads_of b) k)) refl)
    value_same (Or a b) t h k =
        after_same (value_of a s) (value_of a s') (λ x. if holds x then Value (pos 1) else value_of b s) (λ x. if holds x then Value (pos 1) else value_of b s') (value_same a _ h.1 (on_left (reads_of a) (reads_of b) k))
        (λ x e. if_same (holds x) (Value (pos 1)) (Value (pos 1)) (value_of b s) (value_of b s') refl (value_same b _ h.2 (on_right (reads_of a) (reads_of b) k)))
    value_same (Conversion to line a) t h k = ap (λ w. after w (λ x. converted to line x)) (value_same a h.1 h.2 k)

    pub place_same : (p : Place) (t : Primitive) (rest : List ℕ) → PlaceHas types p t rest → SameOn (reads_in_place p) → span_of p s ≡ span_of p s'
    place_same (place line first sizes subs) t rest h k = offset_same subs line first sizes rest h.1 k

    pub offset_same : (subs : Subscripts) (line first : ℕ) (sizes rest : List ℕ) → SubscriptsLeave types subs sizes rest → SameOn (reads_in_subscripts subs) → offset_of subs line first sizes s ≡ offset_of subs line first sizes s'
    offset_same no_subscripts line first sizes rest h k = refl
    offset_same (then_subscript e es) line first [] rest h k = refl
    offset_same (then_subscript e es) line first (n ∷ ns) rest h k =
        after_same (value_of e s) (value_of e s') (λ v. after (subscript line n v) (λ i. offset_of es line (first + i * product ns) ns s)) (λ v. after (subscript line n v) (λ i. offset_of es line (first + i * product ns) ns s'))
        (value_same e Int h.0 (on_left (reads_of e) (reads_in_subscripts es) k))
        (λ v x. after_each (subscript line n v) (λ i. offset_of es line (first + i * product ns) ns s) (λ i. offset_of es line (first + i * product ns) ns s')
        (λ i y. offset_same es line (first + i * product ns) ns rest h.1 (on_right (reads_of e) (reads_in_subscripts es) k)))

  array_same : (a : Array) (t : Primitive) (sizes : List ℕ) → ArrayHas types a t sizes → SameOn (reads_of_array a) → array_of a s ≡ array_of a s'
  array_same (Cells p) t sizes h k =
      after_same (span_of p s) (span_of p s') (λ a. Value (values_from (first_of a) (count_of a) s)) (λ a. Value (values_from (first_of a) (count_of a) s')) (place_same p t sizes h (on_right (named_by p) (reads_in_place p) k))
      (λ a e. ap Value (by_span a (span_named p t sizes a h e (on_left (named_by p) (reads_in_place p) k))))
    where
      by_span : (a : Span) → SameOn (numbers_in a) → values_from (first_of a) (count_of a) s ≡ values_from (first_of a) (count_of a) s'
      by_span (span first count) m = values_same first count m
  array_same (Text bytes) t sizes h k = refl

  part_same : (i : Item) (t : PartType) → ItemHas types i t → SameOn (reads_of_item i) → part_of i s ≡ part_of i s'
  part_same (OfOne u e) (OneOf t) h k = ap (λ w. after w (λ v. Value (One u v))) (value_same e t h.1 k)
  part_same (OfOne u e) (ManyOf sizes t) h k = absurd h
  part_same (OfOne u e) (CountedOf n t) h k = absurd h
  part_same (OfMany u a) (OneOf t) h k = absurd h
  part_same (OfMany u a) (ManyOf sizes t) h k = ap (λ w. after w (λ vs. Value (Many u vs))) (array_same a t sizes h.1 k)
  part_same (OfMany u a) (CountedOf n t) h k = absurd h
  part_same (OfCounted u line n a) (OneOf t) h k = absurd h
  part_same (OfCounted u line n a) (ManyOf sizes t) h k = absurd h
  part_same (OfCounted u line n a) (CountedOf count t) h k =
      after_same (value_of n s) (value_of n s') (λ v. after (array_of a s) (λ vs. counted u line v vs)) (λ v. after (array_of a s') (λ vs. counted u line v vs)) (value_same n count h.1 (on_left (reads_of n) (reads_of_array a) k))
      (λ v e. ap (λ w. after w (λ vs. counted u line v vs)) (array_same a t (h.2.0 ∷ []) h.2.1 (on_right (reads_of n) (reads_of_array a) k)))

  span_same : (p : Place) (t : Primitive) (rest : List ℕ) → PlaceHas types p t rest → SameOn (reads_in_place p) → span_of p s ≡ span_of p s'
  span_same p t rest h k = place_same p t rest h k

module _ (d : Declared) (s s' : Store) where
  pub part_as : (i : Item) (t : PartType) → ItemHas d.types i t → AgreeOn (reads_of_item i) s s' → part_of i s ≡ part_of i s'
  part_as i t h k = part_same d.types s s' i t h k

  pub parts_same : (is : List Item) (ts : List PartType) → ItemsHave d is ts → AgreeOn (reads_of_items is) s s' → parts_of is s ≡ parts_of is s'
  parts_same [] ts h k = refl
  parts_same (i ∷ is) [] h k = absurd h
  parts_same (i ∷ is) (t ∷ ts) h k =
      after_same (part_of i s) (part_of i s') (λ p. after (parts_of is s) (λ ps. Value (p ∷ ps))) (λ p. after (parts_of is s') (λ ps. Value (p ∷ ps)))
      (part_same d.types s s' i t h.0 (on_left d.types s s' (reads_of_item i) (reads_of_items is) k))
      (λ p e. ap (λ w. after w (λ ps. Value (p ∷ ps))) (parts_same is ts h.1 (on_right d.types s s' (reads_of_item i) (reads_of_items is) k)))

  -- the subscripts of targets
  spot_same : (x : Target) (t : PartType) → TargetHas d.types x t → AgreeOn (uses_of_target x).reads s s' → spot_of x s ≡ spot_of x s'
  spot_same (Into p) (OneOf t) h k = ap (λ w. after w (λ a. Value (At a))) (place_same d.types s s' p t [] h k)
  spot_same (Into p) (ManyOf sizes t) h k = ap (λ w. after w (λ a. Value (At a))) (place_same d.types s s' p t sizes h k)
  spot_same (Into p) (CountedOf n t) h k = absurd h
  spot_same (IntoCounted line n a) (OneOf t) h k = absurd h
  spot_same (IntoCounted line n a) (ManyOf sizes t) h k = absurd h
  spot_same (IntoCounted line n a) (CountedOf c t) h k =
      after_same (span_of n s) (span_of n s') (λ x. after (span_of a s) (λ y. Value (AtCounted line x y))) (λ x. after (span_of a s') (λ y. Value (AtCounted line x y)))
      (place_same d.types s s' n c [] h.0 (on_left d.types s s' (reads_in_place n) (reads_in_place a) k))
      (λ x e. ap (λ w. after w (λ y. Value (AtCounted line x y))) (place_same d.types s s' a t (h.1.0 ∷ []) h.1.1 (on_right d.types s s' (reads_in_place n) (reads_in_place a) k)))

  pub spots_same : (xs : List Target) (ts : List PartType) → TargetsHave d xs ts → AgreeOn (uses_of_targets xs).reads s s' → spots_of xs s ≡ spots_of xs s'
  spots_same [] ts h k = refl
  spots_same (x ∷ xs) [] h k = absurd h
  spots_same (x ∷ xs) (t ∷ ts) h k =
      after_same (spot_of x s) (spot_of x s') (λ y. after (spots_of xs s) (λ ys. Value (y ∷ ys))) (λ y. after (spots_of xs s') (λ ys. Value (y ∷ ys)))
      (spot_same x t h.0 (on_left d.types s s' (uses_of_target x).reads (uses_of_targets xs).reads k))
      (λ y e. ap (λ w. after w (λ ys. Value (y ∷ ys))) (spots_same xs ts h.1 (on_right d.types s s' (uses_of_target x).reads (uses_of_targets xs).reads k)))

  pub indices_same : (r : Replicator) → ReplicatorHas d r → AgreeOn (uses_of_replicator r).reads s s' → indices_of r s ≡ indices_of r s'
  indices_same (replicator line index base count) h k =
      let k' : AgreeOn (union (reads_of base) (reads_of count)) s s' = λ c m. k c (or_left (union (reads_of base) (reads_of count) c) false m) in
      after_same (value_of base s) (value_of base s') (λ b. after (value_of count s) (λ n. checked (int_le (pos 0) n && int_le (b +ℤ n) (pos 2147483648)) (indices b (nat_abs n)) Count line))
      (λ b. after (value_of count s') (λ n. checked (int_le (pos 0) n && int_le (b +ℤ n) (pos 2147483648)) (indices b (nat_abs n)) Count line))
      (value_same d.types s s' base Int h.1 (on_left d.types s s' (reads_of base) (reads_of count) k'))
      (λ b e. ap (λ w. after w (λ n. checked (int_le (pos 0) n && int_le (b +ℤ n) (pos 2147483648)) (indices b (nat_abs n)) Count line)) (value_same d.types s s' count Int h.2 (on_right d.types s s' (reads_of base) (reads_of count) k')))

  pub channel_same : (p : Place) (q : _) → ChannelHas d p q → AgreeOn (reads_in_place p) s s' → span_of p s ≡ span_of p s'
  channel_same (place line first sizes subs) q h k = offset_same d.types s s' subs line first sizes [] h.1 k

-- a channel's place names one that is declared, with its protocol
pub channel_declared : (d : Declared) (s : Store) (c : Place) (p : Protocol) (a : Span) → ChannelHas d c p → span_of c s ≡ Value a → d.protocols (first_of a) ≡ Some p
channel_declared d s (place line first sizes subs) p (span f n) h q =
    let (many, in_it) = offset_within d.types s subs line first sizes [] (span f n) h.1 q in
    let one : n ≡ 1 = many in
    h.0 f (in_it f (to_span f n f (omega arith) (omega (arith, one))))
