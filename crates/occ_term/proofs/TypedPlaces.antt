-- What a typed place names lies within its array, and among the components that its constant subscripts name.
use Rattle.std.proofs.Common.{◌≡◌, ◌∙◌, sym, ap, subst, refl, Bool, true, false, IsTrue, ◌&&◌, int_le, int_lt, ℕ, ◌+◌, ◌*◌, ◌<◌, ◌≤◌, ℤ, pos, nat_abs, List, [], ◌∷◌, Option, Some, None, arith}
use Rattle.std.proofs.lemmas.Bool.Decides.{nat_tests}
use Rattle.occ_term.specs.Messages.{Primitive, Range, product}
use Rattle.occ_term.specs.Terms.{Expression, Constant, Cell, Component, Letter, Binary, Unary, And, Or, Conversion, place, Subscripts, no_subscripts, then_subscript}
use Rattle.occ_term.specs.Values.{Store, Evaluated, Value, Fails, after, subscript, Span, span, count_of, value_of, offset_of}
use Rattle.occ_term.specs.Uses.{numbers_in, is_constant, constant_subscript, subscript_value, on_index, part_named}
use Rattle.occ_term.specs.Typing.{SubscriptsLeave}
use Rattle.occ_term.specs.TypedSteps.{PlacesLieWithin}
use Rattle.occ_term.proofs.Bounds.{one_more, checked_gives, within_size}

pub after_gives : {X Y : Type 0} (x : Evaluated X) (f : X → Evaluated Y) (y : Y) → after x f ≡ Value y → (a : X) × (x ≡ Value a) × (f a ≡ Value y)
after_gives (Value a) f y h = (a, refl, h)
after_gives (Fails e) f y h = cc

pub and_left : (a b : Bool) → IsTrue (a && b) → IsTrue a
and_left true b h = refl
and_left false b h = cc

pub and_right : (a b : Bool) → IsTrue (a && b) → IsTrue b
and_right true b h = h
and_right false b h = cc

-- ---- a constant's value is the same in every store

pub same_constant : (e : Expression) (s s' : Store) → IsTrue (is_constant e) → value_of e s ≡ value_of e s'
same_constant (Constant v) s s' h = refl
same_constant (Cell c) s s' h = cc
same_constant (Component p) s s' h = cc
same_constant (Letter line text e) s s' h = cc
same_constant (Binary op type line a b) s s' h =
    rw (same_constant a s s' (and_left (is_constant a) (is_constant b) h), same_constant b s s' (and_right (is_constant a) (is_constant b) h))
same_constant (Unary op type line a) s s' h = rw (same_constant a s s' h)
same_constant (And a b) s s' h =
    rw (same_constant a s s' (and_left (is_constant a) (is_constant b) h), same_constant b s s' (and_right (is_constant a) (is_constant b) h))
same_constant (Or a b) s s' h =
    rw (same_constant a s s' (and_left (is_constant a) (is_constant b) h), same_constant b s s' (and_right (is_constant a) (is_constant b) h))
same_constant (Conversion to line a) s s' h = rw (same_constant a s s' h)

-- ---- cells in a row

abbrev pub Within : Span → Span → Type 0
Within a b = (c : ℕ) → IsTrue (numbers_in a c) → IsTrue (numbers_in b c)

pub in_span : (first count c : ℕ) → IsTrue (numbers_in (span first count) c) → (first ≤ c) × (c < first + count)
in_span first count c h = (grind (arith, nat_tests), grind (arith, nat_tests))

pub to_span : (first count c : ℕ) → first ≤ c → c < first + count → IsTrue (numbers_in (span first count) c)
to_span first count c l h = grind (arith, nat_tests)

span_within : (first n p i : ℕ) → i < n → Within (span (first + i * p) p) (span first (n * p))
span_within first n p i h c m =
    let (l, g) = in_span (first + i * p) p c m in
    to_span first (n * p) c (omega arith) (let o = one_more n i p h in omega arith)

subscript_of_value : (line n : ℕ) (v : ℤ) (i : ℕ) → subscript line n v ≡ Value i → subscript_value 0 n (Value v) ≡ Some i
subscript_of_value line n v i h =
    let (t, e) = checked_gives (int_le (pos 0) v && int_lt v (pos n)) (nat_abs v) i Range line h in
    rw (t, e)

constant_is : (e : Expression) (line n : ℕ) (s : Store) (v : ℤ) (i : ℕ) → IsTrue (is_constant e) → value_of e s ≡ Value v → subscript line n v ≡ Value i → constant_subscript e n ≡ Some i
constant_is e line n s v i h q r = rw (h, same_constant e (λ c. pos 0) s h, q) (subscript_of_value line n v i r)

not_constant : (e : Expression) (n : ℕ) → is_constant e ≡ false → constant_subscript e n ≡ None
not_constant e n h = rw h

by_constant : (e : Expression) (n i : ℕ) (part : ℕ → Span) (whole at : Span) (b : Bool) → is_constant e ≡ b → (IsTrue (is_constant e) → constant_subscript e n ≡ Some i) → Within at (part i) → Within at whole → Within at (on_index (constant_subscript e n) part whole)
by_constant e n i part whole at true h k x y = rw (k h) x
by_constant e n i part whole at false h k x y = rw (not_constant e n h) y

module _ (types : ℕ → Option Primitive) (s : Store) where
  pub offset_within : (subs : Subscripts) (line first : ℕ) (sizes rest : List ℕ) (at : Span) → SubscriptsLeave types subs sizes rest → offset_of subs line first sizes s ≡ Value at → (count_of at ≡ product rest) × Within at (span first (product sizes))
  offset_within no_subscripts line first sizes rest at h q =
      let e : span first (product sizes) ≡ at = cc in
      (ap count_of (sym e) ∙ ap product h, λ c m. subst (λ x. IsTrue (numbers_in x c)) (sym e) m)
  offset_within (then_subscript e es) line first [] rest at h q = absurd h
  offset_within (then_subscript e es) line first (n ∷ ns) rest at h q =
      let (v, q1, q2) = after_gives (value_of e s) (λ v. after (subscript line n v) (λ i. offset_of es line (first + i * product ns) ns s)) at q in
      let (i, q3, q4) = after_gives (subscript line n v) (λ i. offset_of es line (first + i * product ns) ns s) at q2 in
      let (many, in_it) = offset_within es line (first + i * product ns) ns rest at h.1 q4 in
      (many, λ c m. span_within first n (product ns) i (within_size line n v i q3) c (in_it c m))

  pub offset_named : (subs : Subscripts) (line first : ℕ) (sizes rest : List ℕ) (whole at : Span) → SubscriptsLeave types subs sizes rest → offset_of subs line first sizes s ≡ Value at → Within (span first (product sizes)) whole → Within at (part_named subs first sizes whole)
  offset_named no_subscripts line first sizes rest whole at h q w =
      let e : span first (product sizes) ≡ at = cc in
      λ c m. subst (λ x. IsTrue (numbers_in x c)) (sym e) m
  offset_named (then_subscript e es) line first [] rest whole at h q w = absurd h
  offset_named (then_subscript e es) line first (n ∷ ns) rest whole at h q w =
      let (v, q1, q2) = after_gives (value_of e s) (λ v. after (subscript line n v) (λ i. offset_of es line (first + i * product ns) ns s)) at q in
      let (i, q3, q4) = after_gives (subscript line n v) (λ i. offset_of es line (first + i * product ns) ns s) at q2 in
      let inner = offset_named es line (first + i * product ns) ns rest whole at h.1 q4 (λ c m. w c (span_within first n (product ns) i (within_size line n v i q3) c m)) in
      let outer = (offset_within (then_subscript e es) line first (n ∷ ns) rest at h q).1 in
      by_constant e n i (λ k. part_named es (first + k * product ns) ns whole) whole at (is_constant e) refl
      (λ b. constant_is e line n s v i b q1 q3) inner (λ c m. w c (outer c m))

pub places_lie_within : PlacesLieWithin
places_lie_within types s (place line first sizes subs) t rest at h q =
    let (many, in_it) = offset_within types s subs line first sizes rest at h.1 q in
    record {
      many = many;
      typed = λ c m. h.0 c (in_it c m);
      named = offset_named types s subs line first sizes rest (span first (product sizes)) at h.1 q (λ c m. m);
    }
