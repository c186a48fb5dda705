-- Evaluation changes only cells that are written.
use Rattle.std.proofs.Common.{◌≡◌, ◌∙◌, sym, ap, subst, refl, Bool, true, false, IsTrue, ◌||◌, ℕ, suc, ◌+◌, ℤ, pos, nat_eq, nat_le, if◌then◌else◌, List, [], ◌∷◌, take, length, replicate, Option, arith}
use Rattle.std.proofs.lemmas.Bool.Decides.{nat_tests}
use Rattle.std.proofs.lemmas.List.{length-replicate, length-take}
use Rattle.std.specs.Bool.{⊤}
use Rattle.occ_term.specs.Messages.{Primitive, Range, fault, product, Part, One, Many, PartType, OneOf, ManyOf, CountedOf, simple_part}
use Rattle.occ_term.specs.Terms.{Expression, Place, place, Subscripts, no_subscripts, then_subscript, Array, Cells, Text, Item, OfOne, OfMany, OfCounted, Target, Into, IntoCounted, Declaration, Clearing, Naming}
use Rattle.occ_term.specs.Values.{Store, store_with, Evaluated, Value, Fails, after, Span, span, first_of, count_of, value_of, span_of, values_from, array_of, part_of, parts_of}
use Rattle.occ_term.specs.Uses.{Numbers, Uses, no_use, with_use, writing, reading, numbers_in, named_by, reads_in_place, components, components_of, cells_of_item, uses_of_target, uses_of_targets, uses_of_declaration, uses_of_declarations}
use Rattle.occ_term.specs.Typing.{SubscriptsLeave, PlaceHas, ArrayHas, ItemHas, TargetHas}
use Rattle.occ_term.specs.TermTyping.{Declared, TargetsHave, DeclarationHas, DeclarationsHave}
use Rattle.occ_term.specs.Storing.{Outcome, Gives, Faults, then_in, in_store, nothing, store_from, store_in, values_in, Spot, At, AtCounted, spot_of, spots_of, store_part, store_parts, store_into, assigned, declared, all_declared}
use Rattle.occ_term.specs.StepUses.{IsPartOf, ChangesOnly}
use Rattle.occ_term.proofs.TypedStores.{Has, Any, has_after, values_count}
use Rattle.occ_term.proofs.TypedValues.{or_left, or_right}
use Rattle.occ_term.proofs.TypedPlaces.{in_span, to_span, places_lie_within}

-- ---- parts of a use

pub left_part : (a b u : Uses) → IsPartOf (with_use a b) u → IsPartOf a u
left_part a b u h = record {
  reads = λ c m. h.reads c (or_left (a.reads c) (b.reads c) m);
  writes = λ c m. h.writes c (or_left (a.writes c) (b.writes c) m);
  ins = λ c m. h.ins c (or_left (a.ins c) (b.ins c) m);
  outs = λ c m. h.outs c (or_left (a.outs c) (b.outs c) m);
}

pub right_part : (a b u : Uses) → IsPartOf (with_use a b) u → IsPartOf b u
right_part a b u h = record {
  reads = λ c m. h.reads c (or_right (a.reads c) (b.reads c) m);
  writes = λ c m. h.writes c (or_right (a.writes c) (b.writes c) m);
  ins = λ c m. h.ins c (or_right (a.ins c) (b.ins c) m);
  outs = λ c m. h.outs c (or_right (a.outs c) (b.outs c) m);
}

pub either_of : (a b : Bool) {P : Type 0} → (IsTrue a → P) → (IsTrue b → P) → IsTrue (a || b) → P
either_of true b h k m = h refl
either_of false b h k m = k m

pub both_parts : (a b u : Uses) → IsPartOf a u → IsPartOf b u → IsPartOf (with_use a b) u
both_parts a b u h k = record {
  reads = λ c m. either_of (a.reads c) (b.reads c) (h.reads c) (k.reads c) m;
  writes = λ c m. either_of (a.writes c) (b.writes c) (h.writes c) (k.writes c) m;
  ins = λ c m. either_of (a.ins c) (b.ins c) (h.ins c) (k.ins c) m;
  outs = λ c m. either_of (a.outs c) (b.outs c) (h.outs c) (k.outs c) m;
}

pub no_part : (u : Uses) → IsPartOf no_use u
no_part u = record { reads = λ c m. cc; writes = λ c m. cc; ins = λ c m. cc; outs = λ c m. cc }

pub whole_part : (u : Uses) → IsPartOf u u
whole_part u = record { reads = λ c m. m; writes = λ c m. m; ins = λ c m. m; outs = λ c m. m }

-- ---- stores

-- what is given has the property, and the store differs from the first one only in cells of the set
abbrev pub Goes : {X : Type 0} → Numbers → Store → (X → Type 0) → Outcome X → Type 0
Goes w s P (Gives x s') = P x × ChangesOnly w s s'
Goes w s P (Faults e s') = ChangesOnly w s s'

pub goes_then : {X Y : Type 0} (w : Numbers) (s : Store) (P : X → Type 0) (Q : Y → Type 0) (o : Outcome X) (f : X → Store → Outcome Y) → Goes w s P o → ((x : X) (s' : Store) → P x → ChangesOnly w s s' → Goes w s Q (f x s')) → Goes w s Q (then_in o f)
goes_then w s P Q (Gives x s') f h k = k x s' h.0 h.1
goes_then w s P Q (Faults e s') f h k = h

pub goes_in : {X : Type 0} (w : Numbers) (s : Store) (P : X → Type 0) (v : Evaluated X) (s' : Store) → Has P v → ChangesOnly w s s' → Goes w s P (in_store v s')
goes_in w s P (Value x) s' h k = (h, k)
goes_in w s P (Fails e) s' h k = k

abbrev pub AllIn : Numbers → Span → Type 0
AllIn w at = (c : ℕ) → IsTrue (numbers_in at c) → IsTrue (w c)

changed_cell : (w : Numbers) (s s' : Store) (cell : ℕ) (v : ℤ) (c : ℕ) (b : Bool) → nat_eq cell c ≡ b → IsTrue (w cell) → ChangesOnly w s s' → (IsTrue (w c) → ⊥) → (if b then v else s' c) ≡ s c
changed_cell w s s' cell v c true e h k n =
    let same : cell ≡ c = grind (arith, nat_tests) in
    absurd (n (subst (λ x. IsTrue (w x)) same h))
changed_cell w s s' cell v c false e h k n = k c n

module _ (w : Numbers) (s : Store) where
  pub one_goes : (s' : Store) (cell : ℕ) (v : ℤ) → IsTrue (w cell) → ChangesOnly w s s' → ChangesOnly w s (store_with s' cell v)
  one_goes s' cell v h k c n = changed_cell w s s' cell v c (nat_eq cell c) refl h k n

  pub values_go : (s' : Store) (first : ℕ) (vs : List ℤ) → AllIn w (span first (length vs)) → ChangesOnly w s s' → ChangesOnly w s (store_from first vs s')
  values_go s' first [] h k = k
  values_go s' first (v ∷ vs) h k =
      values_go (store_with s' first v) (first + 1) vs
      (λ c r. let (l, g) = in_span (first + 1) (length vs) c r in h c (to_span first (suc (length vs)) c (omega arith) (omega arith)))
      (one_goes s' first v (h first (to_span first (suc (length vs)) first (omega arith) (omega arith))) k)

  pub span_goes : (s' : Store) (cells : Span) (vs : List ℤ) → AllIn w cells → ChangesOnly w s s' → ChangesOnly w s (store_in cells vs s')
  span_goes s' (span f n) vs h k =
      values_go s' f (take n vs) (λ c r. let (l, g) = in_span f (length (take n vs)) c r in h c (to_span f n c (omega arith) (omega (arith, length-take n vs)))) k

-- ---- targets

abbrev pub SpotIn : Numbers → Spot → Type 0
SpotIn w (At cells) = AllIn w cells
SpotIn w (AtCounted line count array) = AllIn w count × AllIn w array

abbrev pub SpotsIn : Numbers → List Spot → Type 0
SpotsIn w [] = ⊤
SpotsIn w (x ∷ xs) = SpotIn w x × SpotsIn w xs

place_at : (d : Declared) (u : Uses) (s : Store) (p : Place) (t : Primitive) (rest : List ℕ) (v : Evaluated Span) → span_of p s ≡ v → PlaceHas d.types p t rest → IsPartOf (writing (named_by p)) u → Has (AllIn u.writes) v
place_at d u s p t rest (Value at) q h k = λ c m. k.writes c ((places_lie_within d.types s p t rest at h q).named c m)
place_at d u s p t rest (Fails e) q h k = tt

place_in : (d : Declared) (u : Uses) (s : Store) (p : Place) (t : Primitive) (rest : List ℕ) → PlaceHas d.types p t rest → IsPartOf (with_use (writing (named_by p)) (reading (reads_in_place p))) u → Has (AllIn u.writes) (span_of p s)
place_in d u s p t rest h k = place_at d u s p t rest (span_of p s) refl h (left_part (writing (named_by p)) (reading (reads_in_place p)) u k)

spot_in : (d : Declared) (u : Uses) (s : Store) (x : Target) (t : PartType) → TargetHas d.types x t → IsPartOf (uses_of_target x) u → Has (SpotIn u.writes) (spot_of x s)
spot_in d u s (Into p) (OneOf t) h k = has_after (AllIn u.writes) (SpotIn u.writes) (span_of p s) (λ at. Value (At at)) (place_in d u s p t [] h k) (λ at m. m)
spot_in d u s (Into p) (ManyOf sizes t) h k = has_after (AllIn u.writes) (SpotIn u.writes) (span_of p s) (λ at. Value (At at)) (place_in d u s p t sizes h k) (λ at m. m)
spot_in d u s (Into p) (CountedOf n t) h k = absurd h
spot_in d u s (IntoCounted line n a) (OneOf t) h k = absurd h
spot_in d u s (IntoCounted line n a) (ManyOf sizes t) h k = absurd h
spot_in d u s (IntoCounted line n a) (CountedOf c t) h k =
    let l = left_part (uses_of_target (Into n)) (uses_of_target (Into a)) u k in
    let r = right_part (uses_of_target (Into n)) (uses_of_target (Into a)) u k in
    has_after (AllIn u.writes) (SpotIn u.writes) (span_of n s) (λ count. after (span_of a s) (λ array. Value (AtCounted line count array))) (place_in d u s n c [] h.0 l)
    (λ count m. has_after (AllIn u.writes) (SpotIn u.writes) (span_of a s) (λ array. Value (AtCounted line count array)) (place_in d u s a t (h.1.0 ∷ []) h.1.1 r) (λ array m'. (m, m')))

spots_in : (d : Declared) (u : Uses) (s : Store) (xs : List Target) (ts : List PartType) → TargetsHave d xs ts → IsPartOf (uses_of_targets xs) u → Has (SpotsIn u.writes) (spots_of xs s)
spots_in d u s [] ts h k = tt
spots_in d u s (x ∷ xs) [] h k = absurd h
spots_in d u s (x ∷ xs) (t ∷ ts) h k =
    has_after (SpotIn u.writes) (SpotsIn u.writes) (spot_of x s) (λ at. after (spots_of xs s) (λ ats. Value (at ∷ ats))) (spot_in d u s x t h.0 (left_part (uses_of_target x) (uses_of_targets xs) u k))
    (λ at m. has_after (SpotsIn u.writes) (SpotsIn u.writes) (spots_of xs s) (λ ats. Value (at ∷ ats)) (spots_in d u s xs ts h.1 (right_part (uses_of_target x) (uses_of_targets xs) u k)) (λ ats ms. (m, ms)))

module _ (w : Numbers) (s : Store) where
  counted_goes : (s' : Store) (line : ℕ) (count array : Span) (vs : List ℤ) (b : Bool) → AllIn w count → AllIn w array → ChangesOnly w s s' → Goes w s Any (if b then Gives nothing (store_in array vs (store_in count (pos (length vs) ∷ []) s')) else Faults (fault Range line) s')
  counted_goes s' line count array vs true h g k = (tt, span_goes w s (store_in count (pos (length vs) ∷ []) s') array vs g (span_goes w s s' count (pos (length vs) ∷ []) h k))
  counted_goes s' line count array vs false h g k = k

  part_goes : (s' : Store) (x : Spot) (p : Part) → SpotIn w x → ChangesOnly w s s' → Goes w s Any (store_part x p s')
  part_goes s' (At cells) p h k = (tt, span_goes w s s' cells (values_in p) h k)
  part_goes s' (AtCounted line count array) p h k = counted_goes s' line count array (values_in p) (nat_le (length (values_in p)) (count_of array)) h.0 h.1 k

  parts_go : (s' : Store) (xs : List Spot) (ps : List Part) → SpotsIn w xs → ChangesOnly w s s' → Goes w s Any (store_parts xs ps s')
  parts_go s' [] ps h k = (tt, k)
  parts_go s' (x ∷ xs) [] h k = (tt, k)
  parts_go s' (x ∷ xs) (p ∷ ps) h k =
      goes_then w s Any Any (store_part x p s') (λ y s''. store_parts xs ps s'') (part_goes s' x p h.0 k) (λ y s'' m k'. parts_go s'' xs ps h.1 k')

-- ---- named values have as many components as are counted

components_are : (types : ℕ → Option Primitive) (subs : Subscripts) (sizes rest : List ℕ) → SubscriptsLeave types subs sizes rest → components subs sizes ≡ product rest
components_are types no_subscripts sizes rest h = ap product h
components_are types (then_subscript e es) [] rest h = absurd h
components_are types (then_subscript e es) (n ∷ ns) rest h = components_are types es ns rest h.1

place_components : (d : Declared) (s : Store) (p : Place) (t : Primitive) (rest : List ℕ) (v : Evaluated Span) → span_of p s ≡ v → PlaceHas d.types p t rest → Has (λ vs. length vs ≡ components_of (Cells p)) (after v (λ at. Value (values_from (first_of at) (count_of at) s)))
place_components d s p t rest (Fails e) q h = tt
place_components d s (place line first sizes subs) t rest (Value (span f n)) q h =
    values_count f n s ∙ (places_lie_within d.types s (place line first sizes subs) t rest (span f n) h q).many ∙ sym (components_are d.types subs sizes rest h.1)

array_components : (d : Declared) (s : Store) (a : Array) (t : Primitive) (sizes : List ℕ) → ArrayHas d.types a t sizes → Has (λ vs. length vs ≡ components_of a) (array_of a s)
array_components d s (Cells p) t sizes h = place_components d s p t sizes (span_of p s) refl h
array_components d s (Text bytes) t sizes h = refl

abbrev pub FillsCells : Item → Part → Type 0
FillsCells i p = length (values_in p) ≡ cells_of_item i

one_component : (u : Primitive) (e : Expression) (v : Evaluated ℤ) → Has (FillsCells (OfOne u e)) (after v (λ x. Value (One u x)))
one_component u e (Value x) = refl
one_component u e (Fails f) = tt

pub item_fills : (d : Declared) (s : Store) (i : Item) (sizes : List ℕ) (t : Primitive) → ItemHas d.types i (simple_part sizes t) → Has (FillsCells i) (part_of i s)
item_fills d s (OfOne u e) sizes t h = one_component u e (value_of e s)
item_fills d s (OfMany u a) [] t h = absurd h
item_fills d s (OfMany u a) (n ∷ ns) t h =
    has_after (λ vs. length vs ≡ components_of a) (FillsCells (OfMany u a)) (array_of a s) (λ vs. Value (Many u vs)) (array_components d s a t (n ∷ ns) h.1) (λ vs m. m)
item_fills d s (OfCounted u line n a) [] t h = absurd h
item_fills d s (OfCounted u line n a) (m ∷ ms) t h = absurd h

-- ---- stores of targets and declarations

module _ (d : Declared) (u : Uses) (s : Store) where
  pub into_goes : (s' : Store) (xs : List Target) (ts : List PartType) (ps : List Part) → TargetsHave d xs ts → IsPartOf (uses_of_targets xs) u → ChangesOnly u.writes s s' → Goes u.writes s Any (store_into xs ps s')
  into_goes s' xs ts ps h m k =
      goes_then u.writes s (SpotsIn u.writes) Any (in_store (spots_of xs s') s') (λ ats s''. store_parts ats ps s'') (goes_in u.writes s (SpotsIn u.writes) (spots_of xs s') s' (spots_in d u s' xs ts h m) k)
      (λ ats s'' g k'. parts_go u.writes s s'' ats ps g k')

  any_part : {X : Type 0} (v : Evaluated X) → Has Any v
  any_part (Value x) = tt
  any_part (Fails e) = tt

  pub assigned_goes : (s' : Store) (xs : List Target) (is : List Item) (ts : List PartType) → TargetsHave d xs ts → IsPartOf (uses_of_targets xs) u → ChangesOnly u.writes s s' → Goes u.writes s Any (assigned xs is s')
  assigned_goes s' xs is ts h m k =
      goes_then u.writes s Any Any (in_store (parts_of is s') s') (λ ps s''. store_into xs ps s'') (goes_in u.writes s Any (parts_of is s') s' (any_part (parts_of is s')) k)
      (λ ps s'' g k'. into_goes s'' xs ts ps h m k')

  pub declared_goes : (s' : Store) (x : Declaration) → DeclarationHas d x → IsPartOf (uses_of_declaration x) u → ChangesOnly u.writes s s' → Goes u.writes s Any (declared x s')
  declared_goes s' (Clearing first count) h m k = (tt, values_go u.writes s s' first (replicate count (pos 0)) (rw (length-replicate count (pos 0)) m.writes) k)
  declared_goes s' (Naming first value) h m k =
      goes_then u.writes s (FillsCells value) Any (in_store (part_of value s') s') (λ p s''. Gives nothing (store_from first (values_in p) s'')) (goes_in u.writes s (FillsCells value) (part_of value s') s' (item_fills d s' value h.1 h.0 h.2) k)
      (λ p s'' g k'. (tt, values_go u.writes s s'' first (values_in p) (rw g (λ c r. m.writes c (or_right false (numbers_in (span first (cells_of_item value)) c) r))) k'))

  pub all_declared_go : (s' : Store) (xs : List Declaration) → DeclarationsHave d xs → IsPartOf (uses_of_declarations xs) u → ChangesOnly u.writes s s' → Goes u.writes s Any (all_declared xs s')
  all_declared_go s' [] h m k = (tt, k)
  all_declared_go s' (x ∷ xs) h m k =
      goes_then u.writes s Any Any (declared x s') (λ y s''. all_declared xs s'') (declared_goes s' x h.0 (left_part (uses_of_declaration x) (uses_of_declarations xs) u m) k)
      (λ y s'' g k'. all_declared_go s'' xs h.1 (right_part (uses_of_declaration x) (uses_of_declarations xs) u m) k')
