-- An expression's value is of its type; what is typed stays within the code's words.
use Rattle.std.proofs.Common.{◌≡◌, sym, subst, refl, inl, inr, ◌⊎◌, Bool, true, false, IsTrue, ◌||◌, ℕ, zero, suc, ◌+◌, ◌<◌, ◌≤◌, ℤ, pos, neg_ℤ, nat_eq, if◌then◌else◌, List, [], ◌∷◌, get_or, length, Option, Some, None, arith}
use Rattle.std.proofs.lemmas.Bool.Decides.{nat_tests}
use Rattle.occ_term.specs.Messages.{Primitive, Boolean, Byte, Int, is_of, product, AllOf}
use Rattle.occ_term.specs.Terms.{Expression, Constant, Cell, Component, Letter, Binary, Unary, And, Or, Conversion, Negate, BitNot, Not, Place, place, Subscripts, no_subscripts, then_subscript}
use Rattle.occ_term.specs.Values.{Store, Evaluated, Value, Fails, after, holds, is_zero, subscript, Span, span, first_of, value_of, span_of, binary, unary, converted, is_of_declared, TypedOn}
use Rattle.occ_term.specs.Uses.{Numbers, union, numbers_in, named_by, reads_of, reads_in_place, reads_in_subscripts}
use Rattle.occ_term.specs.Typing.{CellsHave, HasType, SubscriptsLeave, PlaceHas}
use Rattle.occ_term.specs.Frames.{Variables, at}
use Rattle.occ_term.specs.Evaluation.{CanBeEvaluated, IsWord, Bounded, BoundedPlace, BoundedSubscripts}
use Rattle.occ_term.specs.TypedSteps.{ValuesHaveTypes}
use Rattle.occ_term.proofs.TypedOperators.{OfType, in_type_typed, truth_typed, binary_typed, not_typed, converted_typed, is_word}
use Rattle.occ_term.proofs.TypedPlaces.{to_span, places_lie_within}
use Rattle.occ_term.specs.UnfoldedProgram.{most_cells}

pub or_left : (a b : Bool) → IsTrue a → IsTrue (a || b)
or_left true b h = refl
or_left false b h = cc

pub or_right : (a b : Bool) → IsTrue b → IsTrue (a || b)
or_right true b h = refl
or_right false b h = h

module _ (types : ℕ → Option Primitive) (s : Store) where
  pub first_typed : (a b : Numbers) → TypedOn (union a b) types s → TypedOn a types s
  first_typed a b h c m = h c (or_left (a c) (b c) m)

  pub second_typed : (a b : Numbers) → TypedOn (union a b) types s → TypedOn b types s
  second_typed a b h c m = h c (or_right (a c) (b c) m)

  pub cell_typed : (c : ℕ) (t : Primitive) → types c ≡ Some t → IsTrue (is_of_declared (types c) (s c)) → IsTrue (is_of t (s c))
  cell_typed c t h k = subst (λ x. IsTrue (is_of_declared x (s c))) h k

pub letter_typed : (text : List ℤ) (i : ℕ) → AllOf Byte text → IsTrue (is_of Byte (get_or text i (pos 0)))
letter_typed [] i h = refl
letter_typed (v ∷ vs) zero h = h.0
letter_typed (v ∷ vs) (suc i) h = letter_typed vs i h.1

letter_value : (text : List ℤ) (v : Evaluated ℕ) → AllOf Byte text → OfType Byte (after v (λ i. Value (get_or text i (pos 0))))
letter_value text (Value i) h = letter_typed text i h
letter_value text (Fails e) h = tt

typed_after : (t : Primitive) (x : Evaluated ℤ) (f : ℤ → Evaluated ℤ) → ((v : ℤ) → OfType t (f v)) → OfType t (after x f)
typed_after t (Value v) f h = h v
typed_after t (Fails e) f h = tt

either_typed : (b : Bool) (x y : Evaluated ℤ) → OfType Boolean x → OfType Boolean y → OfType Boolean (if b then x else y)
either_typed true x y h k = h
either_typed false x y h k = k

component_typed : (types : ℕ → Option Primitive) (s : Store) (p : Place) (t : Primitive) (v : Evaluated Span) → span_of p s ≡ v → PlaceHas types p t [] → TypedOn (named_by p) types s → OfType t (after v (λ at. Value (s (first_of at))))
component_typed types s p t (Fails e) q h k = tt
component_typed types s p t (Value (span f n)) q h k =
    let w = places_lie_within types s p t [] (span f n) h q in
    let m : IsTrue (numbers_in (span f n) f) = to_span f n f (omega arith) (let o : n ≡ 1 = w.many in omega arith) in
    cell_typed types s f t (w.typed f m) (k f (w.named f m))

same_cell : (c : ℕ) → IsTrue (nat_eq c c)
same_cell c = grind (arith, nat_tests)

module _ (types : ℕ → Option Primitive) (s : Store) where
  pub value_typed : (e : Expression) (t : Primitive) → HasType types e t → TypedOn (reads_of e) types s → OfType t (value_of e s)
  value_typed (Constant v) t h k = h
  value_typed (Cell c) t h k = cell_typed types s c t h (k c (same_cell c))
  value_typed (Component p) t h k = component_typed types s p t (span_of p s) refl h (first_typed types s (named_by p) (reads_in_place p) k)
  value_typed (Letter line text e) t h k =
      subst (λ x. OfType x (value_of (Letter line text e) s)) (sym h.0)
      (typed_after Byte (value_of e s) (λ v. after (subscript line (length text) v) (λ i. Value (get_or text i (pos 0)))) (λ v. letter_value text (subscript line (length text) v) h.1))
  value_typed (Binary op type line a b) t h k =
      typed_after t (value_of a s) (λ x. after (value_of b s) (λ y. binary op type line x y))
      (λ x. typed_after t (value_of b s) (λ y. binary op type line x y) (λ y. binary_typed op type h.0 t line x y h.1))
  value_typed (Unary Negate type line a) t h k =
      subst (λ x. OfType x (value_of (Unary Negate type line a) s)) (sym h.0)
      (typed_after type (value_of a s) (λ x. unary Negate type line x) (λ x. in_type_typed type line (neg_ℤ x)))
  value_typed (Unary BitNot type line a) t h k =
      subst (λ x. OfType x (value_of (Unary BitNot type line a) s)) (sym h.0)
      (typed_after type (value_of a s) (λ x. unary BitNot type line x) (λ x. not_typed type x))
  value_typed (Unary Not type line a) t h k =
      subst (λ x. OfType x (value_of (Unary Not type line a) s)) (sym h.0)
      (typed_after Boolean (value_of a s) (λ x. unary Not type line x) (λ x. truth_typed (is_zero x)))
  value_typed (And a b) t h k =
      let r = value_typed b Boolean h.2 (second_typed types s (reads_of a) (reads_of b) k) in
      subst (λ x. OfType x (value_of (And a b) s)) (sym h.0)
      (typed_after Boolean (value_of a s) (λ x. if holds x then value_of b s else Value (pos 0)) (λ x. either_typed (holds x) (value_of b s) (Value (pos 0)) r refl))
  value_typed (Or a b) t h k =
      let r = value_typed b Boolean h.2 (second_typed types s (reads_of a) (reads_of b) k) in
      subst (λ x. OfType x (value_of (Or a b) s)) (sym h.0)
      (typed_after Boolean (value_of a s) (λ x. if holds x then Value (pos 1) else value_of b s) (λ x. either_typed (holds x) (Value (pos 1)) (value_of b s) refl r))
  value_typed (Conversion to line a) t h k =
      subst (λ x. OfType x (value_of (Conversion to line a) s)) (sym h.0)
      (typed_after to (value_of a s) (λ x. converted to line x) (λ x. converted_typed to line x))

pub values_have_types : ValuesHaveTypes
values_have_types types s e t v h k q = subst (OfType t) q (value_typed types s e t h k)

-- ---- within the code's words

at_most : (a b : ℕ) → (a < b) ⊎ (b ≤ a)
at_most a b = grind arith

none_some : (x : Option Primitive) (t : Primitive) → x ≡ None → x ≡ Some t → ⊥
none_some x t h k = cc

few_cells : (types : ℕ → Option Primitive) (first count : ℕ) (t : Primitive) → ((c : ℕ) → most_cells ≤ c → types c ≡ None) → CellsHave types (span first count) t → 0 < count → first + count ≤ most_cells
few_cells types first zero t few h m = absurd (omega arith)
few_cells types first (suc n) t few h m =
    elim (at_most (first + n) most_cells) [
      | inl below ↦ omega arith
      | inr above ↦ let a = few (first + n) above in let b = h (first + n) (to_span first (suc n) (first + n) (omega arith) (omega arith)) in absurd (none_some (types (first + n)) t a b)
    ]

module _ (types : ℕ → Option Primitive) (s : Store) (few : (c : ℕ) → most_cells ≤ c → types c ≡ None) where
  pub word : (e : Expression) (t : Primitive) → HasType types e t → TypedOn (reads_of e) types s → IsWord e s
  word e t h k v q = is_word t v (values_have_types types s e t v h k q)

mutual
  pub bounded : (types : ℕ → Option Primitive) (s : Store) (few : (c : ℕ) → most_cells ≤ c → types c ≡ None) (e : Expression) (t : Primitive) → HasType types e t → TypedOn (reads_of e) types s → Bounded e s
  bounded types s few (Constant v) t h k = tt
  bounded types s few (Cell c) t h k = tt
  bounded types s few (Component p) t h k = bounded_place types s few p t [] h (second_typed types s (named_by p) (reads_in_place p) k)
  bounded types s few (Letter line text e) t h k = bounded types s few e Int h.2 k
  bounded types s few (Binary op type line a b) t h k =
      let l = first_typed types s (reads_of a) (reads_of b) k in
      let r = second_typed types s (reads_of a) (reads_of b) k in
      (bounded types s few a type h.2 l, word types s few a type h.2 l, bounded types s few b h.0 h.3 r, word types s few b h.0 h.3 r)
  bounded types s few (Unary Negate type line a) t h k = (bounded types s few a type h.2 k, word types s few a type h.2 k)
  bounded types s few (Unary BitNot type line a) t h k = (bounded types s few a type h.2 k, word types s few a type h.2 k)
  bounded types s few (Unary Not type line a) t h k = (bounded types s few a Boolean h.2 k, word types s few a Boolean h.2 k)
  bounded types s few (And a b) t h k =
      (bounded types s few a Boolean h.1 (first_typed types s (reads_of a) (reads_of b) k), bounded types s few b Boolean h.2 (second_typed types s (reads_of a) (reads_of b) k))
  bounded types s few (Or a b) t h k =
      (bounded types s few a Boolean h.1 (first_typed types s (reads_of a) (reads_of b) k), bounded types s few b Boolean h.2 (second_typed types s (reads_of a) (reads_of b) k))
  bounded types s few (Conversion to line a) t h k = bounded types s few a h.1 h.2 k

  pub bounded_place : (types : ℕ → Option Primitive) (s : Store) (few : (c : ℕ) → most_cells ≤ c → types c ≡ None) (p : Place) (t : Primitive) (rest : List ℕ) → PlaceHas types p t rest → TypedOn (reads_in_place p) types s → BoundedPlace p s
  bounded_place types s few (place line first sizes subs) t rest h k =
      (few_cells types first (product sizes) t few h.0, bounded_subscripts types s few subs sizes rest h.1 k)

  pub bounded_subscripts : (types : ℕ → Option Primitive) (s : Store) (few : (c : ℕ) → most_cells ≤ c → types c ≡ None) (subs : Subscripts) (sizes rest : List ℕ) → SubscriptsLeave types subs sizes rest → TypedOn (reads_in_subscripts subs) types s → BoundedSubscripts subs s
  bounded_subscripts types s few no_subscripts sizes rest h k = tt
  bounded_subscripts types s few (then_subscript e es) [] rest h k = absurd h
  bounded_subscripts types s few (then_subscript e es) (n ∷ ns) rest h k = (
    bounded types s few e Int h.0 (first_typed types s (reads_of e) (reads_in_subscripts es) k),
    bounded_subscripts types s few es ns rest h.1 (second_typed types s (reads_of e) (reads_in_subscripts es) k),
  )

pub can_be_bounded : (e : Expression) (f : Variables) → CanBeEvaluated e f → Bounded e (at f)
can_be_bounded e f c = bounded c.types (at f) c.few e c.type c.typed c.values
