-- Evaluation keeps the types of cells: items, stores and declarations.
use Rattle.std.proofs.Common.{◌≡◌, ◌∙◌, sym, ap, subst, refl, Bool, true, false, IsTrue, ◌&&◌, int_le, ℕ, zero, suc, ◌+◌, ◌≤◌, ℤ, pos, negsuc, nat_eq, nat_le, nat_abs, if◌then◌else◌, List, [], ◌∷◌, take, length, replicate, Some, arith}
use Rattle.std.proofs.lemmas.Bool.Decides.{nat_tests}
use Rattle.std.proofs.lemmas.List.{length-replicate, length-take, length-take-le}
use Rattle.std.proofs.Math.Nat.{mul-one}
use Rattle.std.specs.Bool.{⊤}
use Rattle.occ_term.specs.Messages.{Primitive, Boolean, Byte, Int, Range, fault, is_of, product, AllOf, Part, One, Many, Counted, PartType, OneOf, ManyOf, CountedOf, PartFits, PartsFit, simple_part}
use Rattle.occ_term.specs.Terms.{Expression, Place, Array, Cells, Text, Item, OfOne, OfMany, OfCounted, Target, Into, IntoCounted, Declaration, Clearing, Naming}
use Rattle.occ_term.specs.Values.{Store, store_with, Evaluated, Value, Fails, after, checked, Span, span, first_of, count_of, value_of, span_of, values_from, array_of, counted, part_of, parts_of, is_of_declared}
use Rattle.occ_term.specs.Typing.{CellsHave, HasType, PlaceHas, ArrayHas, ItemHas, TargetHas}
use Rattle.occ_term.specs.TermTyping.{Declared, ItemsHave, TargetsHave, DeclarationHas, DeclarationsHave}
use Rattle.occ_term.specs.Storing.{Outcome, Gives, Faults, then_in, in_store, nothing, store_from, store_in, values_in, Spot, At, AtCounted, spot_of, spots_of, store_part, store_parts, store_into, assigned, declared, all_declared}
use Rattle.occ_term.specs.TypedSteps.{StoreHas, LiesWithin}
use Rattle.occ_term.proofs.TypedValues.{value_typed}
use Rattle.occ_term.proofs.TypedOperators.{OfType}
use Rattle.occ_term.proofs.TypedPlaces.{in_span, to_span, places_lie_within}

-- what an evaluation gives has the property, if it gives something
abbrev pub Has : {X : Type 0} → (X → Type 0) → Evaluated X → Type 0
Has P (Value x) = P x
Has P (Fails e) = ⊤

-- so has what an outcome gives, and its store has the declared types in any case
abbrev pub Keeps : {X : Type 0} → Declared → (X → Type 0) → Outcome X → Type 0
Keeps d P (Gives x s) = P x × StoreHas d s
Keeps d P (Faults e s) = StoreHas d s

pub has_after : {X Y : Type 0} (P : X → Type 0) (Q : Y → Type 0) (v : Evaluated X) (f : X → Evaluated Y) → Has P v → ((x : X) → P x → Has Q (f x)) → Has Q (after v f)
has_after P Q (Value x) f h k = k x h
has_after P Q (Fails e) f h k = tt

-- with the equation that says where the value comes from
pub has_by : {X Y : Type 0} (Q : Y → Type 0) (v : Evaluated X) (f : X → Evaluated Y) → ((x : X) → v ≡ Value x → Has Q (f x)) → Has Q (after v f)
has_by Q (Value x) f k = k x refl
has_by Q (Fails e) f k = tt

pub keeps_then : {X Y : Type 0} (d : Declared) (P : X → Type 0) (Q : Y → Type 0) (o : Outcome X) (f : X → Store → Outcome Y) → Keeps d P o → ((x : X) (s : Store) → P x → StoreHas d s → Keeps d Q (f x s)) → Keeps d Q (then_in o f)
keeps_then d P Q (Gives x s) f h k = k x s h.0 h.1
keeps_then d P Q (Faults e s) f h k = h

pub keeps_in : {X : Type 0} (d : Declared) (P : X → Type 0) (v : Evaluated X) (s : Store) → Has P v → StoreHas d s → Keeps d P (in_store v s)
keeps_in d P (Value x) s h k = (h, k)
keeps_in d P (Fails e) s h k = k

abbrev pub Any : {X : Type 0} → X → Type 0
Any x = ⊤

-- ---- values of items

as_has : (t : Primitive) (v : Evaluated ℤ) → OfType t v → Has (λ x. IsTrue (is_of t x)) v
as_has t (Value x) h = h
as_has t (Fails e) h = tt

pub value_has : (d : Declared) (s : Store) (e : Expression) (t : Primitive) → HasType d.types e t → StoreHas d s → Has (λ v. IsTrue (is_of t v)) (value_of e s)
value_has d s e t h k = as_has t (value_of e s) (value_typed d.types s e t h (λ c m. k c))

pub values_typed : (d : Declared) (s : Store) (first count : ℕ) (t : Primitive) → CellsHave d.types (span first count) t → StoreHas d s → AllOf t (values_from first count s)
values_typed d s first zero t h k = tt
values_typed d s first (suc n) t h k = (
  subst (λ x. IsTrue (is_of_declared x (s first))) (h first (to_span first (suc n) first (omega arith) (omega arith))) (k first),
  values_typed d s (first + 1) n t (λ c m. let (l, g) = in_span (first + 1) n c m in h c (to_span first (suc n) c (omega arith) (omega arith))) k,
)

pub values_count : (first count : ℕ) (s : Store) → length (values_from first count s) ≡ count
values_count first zero s = refl
values_count first (suc n) s = ap suc (values_count (first + 1) n s)

pub take_typed : (t : Primitive) (n : ℕ) (vs : List ℤ) → AllOf t vs → AllOf t (take n vs)
take_typed t zero vs h = tt
take_typed t (suc n) [] h = tt
take_typed t (suc n) (v ∷ vs) h = (h.0, take_typed t n vs h.1)

abbrev pub ArrayFits : Primitive → List ℕ → List ℤ → Type 0
ArrayFits t sizes vs = (length vs ≡ product sizes) × AllOf t vs

cells_fit : (d : Declared) (s : Store) (p : Place) (t : Primitive) (sizes : List ℕ) (at : Span) → StoreHas d s → LiesWithin d.types p t sizes at → ArrayFits t sizes (values_from (first_of at) (count_of at) s)
cells_fit d s p t sizes (span f n) k w = (values_count f n s ∙ w.many, values_typed d s f n t w.typed k)

pub array_has : (d : Declared) (s : Store) (a : Array) (t : Primitive) (sizes : List ℕ) → ArrayHas d.types a t sizes → StoreHas d s → Has (ArrayFits t sizes) (array_of a s)
array_has d s (Cells p) t sizes h k =
    has_by (ArrayFits t sizes) (span_of p s) (λ at. Value (values_from (first_of at) (count_of at) s)) (λ at q. cells_fit d s p t sizes at k (places_lie_within d.types s p t sizes at h q))
array_has d s (Text bytes) t sizes h k =
    (rw h.1 (sym (mul-one (length bytes))), subst (λ x. AllOf x bytes) (sym h.0) h.2)

within_length : (n m : ℕ) → IsTrue (int_le (pos 0) (pos n) && int_le (pos n) (pos m)) → n ≤ m
within_length n m h = grind (arith, nat_tests)

counted_fits : (count t : Primitive) (line : ℕ) (n : ℤ) (vs : List ℤ) (b : Bool) → (int_le (pos 0) n && int_le n (pos (length vs))) ≡ b → IsTrue (is_of count n) → AllOf t vs → Has (PartFits (CountedOf count t)) (checked b (Counted t (take (nat_abs n) vs)) Range line)
counted_fits count t line (pos n) vs true e h k =
    let l : n ≤ length vs = within_length n (length vs) e in
    (refl, subst (λ x. IsTrue (is_of count (pos x))) (sym (length-take-le n vs l)) h, take_typed t n vs k)
counted_fits count t line (negsuc n) vs true e h k = cc
counted_fits count t line n vs false e h k = tt

pub part_has : (d : Declared) (s : Store) (i : Item) (t : PartType) → ItemHas d.types i t → StoreHas d s → Has (PartFits t) (part_of i s)
part_has d s (OfOne u e) (OneOf t) h k =
    has_after (λ v. IsTrue (is_of t v)) (PartFits (OneOf t)) (value_of e s) (λ v. Value (One u v)) (value_has d s e t h.1 k) (λ v m. (h.0, m))
part_has d s (OfOne u e) (ManyOf sizes t) h k = absurd h
part_has d s (OfOne u e) (CountedOf n t) h k = absurd h
part_has d s (OfMany u a) (OneOf t) h k = absurd h
part_has d s (OfMany u a) (ManyOf sizes t) h k =
    has_after (ArrayFits t sizes) (PartFits (ManyOf sizes t)) (array_of a s) (λ vs. Value (Many u vs)) (array_has d s a t sizes h.1 k) (λ vs m. (h.0, m.0, m.1))
part_has d s (OfMany u a) (CountedOf n t) h k = absurd h
part_has d s (OfCounted u line n a) (OneOf t) h k = absurd h
part_has d s (OfCounted u line n a) (ManyOf sizes t) h k = absurd h
part_has d s (OfCounted u line n a) (CountedOf count t) h k =
    has_after (λ v. IsTrue (is_of count v)) (PartFits (CountedOf count t)) (value_of n s) (λ v. after (array_of a s) (λ vs. counted u line v vs)) (value_has d s n count h.1 k)
    (λ v m. has_after (ArrayFits t (h.2.0 ∷ [])) (PartFits (CountedOf count t)) (array_of a s) (λ vs. counted u line v vs) (array_has d s a t (h.2.0 ∷ []) h.2.1 k)
    (λ vs f. subst (λ x. Has (PartFits (CountedOf count t)) (counted x line v vs)) (sym h.0) (counted_fits count t line v vs (int_le (pos 0) v && int_le v (pos (length vs))) refl m f.1)))

pub parts_have : (d : Declared) (s : Store) (is : List Item) (ts : List PartType) → ItemsHave d is ts → StoreHas d s → Has (PartsFit ts) (parts_of is s)
parts_have d s [] [] h k = tt
parts_have d s [] (t ∷ ts) h k = absurd h
parts_have d s (i ∷ is) [] h k = absurd h
parts_have d s (i ∷ is) (t ∷ ts) h k =
    has_after (PartFits t) (PartsFit (t ∷ ts)) (part_of i s) (λ p. after (parts_of is s) (λ ps. Value (p ∷ ps))) (part_has d s i t h.0 k)
    (λ p m. has_after (PartsFit ts) (PartsFit (t ∷ ts)) (parts_of is s) (λ ps. Value (p ∷ ps)) (parts_have d s is ts h.1 k) (λ ps ms. (m, ms)))

-- ---- stores

by_cell : (d : Declared) (s : Store) (cell : ℕ) (t : Primitive) (v : ℤ) → d.types cell ≡ Some t → IsTrue (is_of t v) → (c : ℕ) → IsTrue (is_of_declared (d.types c) (s c)) → (b : Bool) → nat_eq cell c ≡ b → IsTrue (is_of_declared (d.types c) (if nat_eq cell c then v else s c))
by_cell d s cell t v h m c k true e =
    let same : cell ≡ c = grind (arith, nat_tests) in
    let here : IsTrue (is_of_declared (d.types cell) v) = rw h m in
    rw e (subst (λ x. IsTrue (is_of_declared (d.types x) v)) same here)
by_cell d s cell t v h m c k false e = rw e k

pub one_store : (d : Declared) (s : Store) (cell : ℕ) (t : Primitive) (v : ℤ) → d.types cell ≡ Some t → IsTrue (is_of t v) → StoreHas d s → StoreHas d (store_with s cell v)
one_store d s cell t v h m k c = by_cell d s cell t v h m c (k c) (nat_eq cell c) refl

pub values_store : (d : Declared) (s : Store) (first : ℕ) (vs : List ℤ) (t : Primitive) → CellsHave d.types (span first (length vs)) t → AllOf t vs → StoreHas d s → StoreHas d (store_from first vs s)
values_store d s first [] t h m k = k
values_store d s first (v ∷ vs) t h m k =
    values_store d (store_with s first v) (first + 1) vs t
    (λ c r. let (l, g) = in_span (first + 1) (length vs) c r in h c (to_span first (suc (length vs)) c (omega arith) (omega arith)))
    m.1 (one_store d s first t v (h first (to_span first (suc (length vs)) first (omega arith) (omega arith))) m.0 k)

pub span_store : (d : Declared) (s : Store) (cells : Span) (vs : List ℤ) (t : Primitive) → CellsHave d.types cells t → AllOf t vs → StoreHas d s → StoreHas d (store_in cells vs s)
span_store d s (span f n) vs t h m k =
    values_store d s f (take n vs) t
    (λ c r. let (l, g) = in_span f (length (take n vs)) c r in h c (to_span f n c (omega arith) (omega (arith, length-take n vs))))
    (take_typed t n vs m) k

-- ---- targets

abbrev pub SpotHas : Declared → Spot → PartType → Type 0
SpotHas d (At cells) (OneOf t) = CellsHave d.types cells t
SpotHas d (At cells) (ManyOf sizes t) = CellsHave d.types cells t
SpotHas d (At cells) (CountedOf n t) = ⊥
SpotHas d (AtCounted line count array) (OneOf t) = ⊥
SpotHas d (AtCounted line count array) (ManyOf sizes t) = ⊥
SpotHas d (AtCounted line count array) (CountedOf n t) = CellsHave d.types count n × CellsHave d.types array t

abbrev pub SpotsHave : Declared → List PartType → List Spot → Type 0
SpotsHave d [] [] = ⊤
SpotsHave d [] (x ∷ xs) = ⊥
SpotsHave d (t ∷ ts) [] = ⊥
SpotsHave d (t ∷ ts) (x ∷ xs) = SpotHas d x t × SpotsHave d ts xs

by_span : (d : Declared) (s : Store) (p : Place) (t : Primitive) (rest : List ℕ) (v : Evaluated Span) → span_of p s ≡ v → PlaceHas d.types p t rest → Has (λ at. CellsHave d.types at t) v
by_span d s p t rest (Value at) q h = (places_lie_within d.types s p t rest at h q).typed
by_span d s p t rest (Fails e) q h = tt

place_has : (d : Declared) (s : Store) (p : Place) (t : Primitive) (rest : List ℕ) → PlaceHas d.types p t rest → Has (λ at. CellsHave d.types at t) (span_of p s)
place_has d s p t rest h = by_span d s p t rest (span_of p s) refl h

pub spot_has : (d : Declared) (s : Store) (x : Target) (t : PartType) → TargetHas d.types x t → Has (λ at. SpotHas d at t) (spot_of x s)
spot_has d s (Into p) (OneOf t) h =
    has_after (λ at. CellsHave d.types at t) (λ at. SpotHas d at (OneOf t)) (span_of p s) (λ at. Value (At at)) (place_has d s p t [] h) (λ at m. m)
spot_has d s (Into p) (ManyOf sizes t) h =
    has_after (λ at. CellsHave d.types at t) (λ at. SpotHas d at (ManyOf sizes t)) (span_of p s) (λ at. Value (At at)) (place_has d s p t sizes h) (λ at m. m)
spot_has d s (Into p) (CountedOf n t) h = absurd h
spot_has d s (IntoCounted line n a) (OneOf t) h = absurd h
spot_has d s (IntoCounted line n a) (ManyOf sizes t) h = absurd h
spot_has d s (IntoCounted line n a) (CountedOf c t) h =
    has_after (λ at. CellsHave d.types at c) (λ at. SpotHas d at (CountedOf c t)) (span_of n s) (λ count. after (span_of a s) (λ array. Value (AtCounted line count array))) (place_has d s n c [] h.0)
    (λ count m. has_after (λ at. CellsHave d.types at t) (λ at. SpotHas d at (CountedOf c t)) (span_of a s) (λ array. Value (AtCounted line count array)) (place_has d s a t (h.1.0 ∷ []) h.1.1) (λ array k. (m, k)))

pub spots_have : (d : Declared) (s : Store) (xs : List Target) (ts : List PartType) → TargetsHave d xs ts → Has (SpotsHave d ts) (spots_of xs s)
spots_have d s [] [] h = tt
spots_have d s [] (t ∷ ts) h = absurd h
spots_have d s (x ∷ xs) [] h = absurd h
spots_have d s (x ∷ xs) (t ∷ ts) h =
    has_after (λ at. SpotHas d at t) (SpotsHave d (t ∷ ts)) (spot_of x s) (λ at. after (spots_of xs s) (λ ats. Value (at ∷ ats))) (spot_has d s x t h.0)
    (λ at m. has_after (SpotsHave d ts) (SpotsHave d (t ∷ ts)) (spots_of xs s) (λ ats. Value (at ∷ ats)) (spots_have d s xs ts h.1) (λ ats ms. (m, ms)))

counted_store : (d : Declared) (s : Store) (line : ℕ) (count array : Span) (vs : List ℤ) (n t : Primitive) (b : Bool) → CellsHave d.types count n → CellsHave d.types array t → IsTrue (is_of n (pos (length vs))) → AllOf t vs → StoreHas d s → Keeps d Any (if b then Gives nothing (store_in array vs (store_in count (pos (length vs) ∷ []) s)) else Faults (fault Range line) s)
counted_store d s line count array vs n t true h g m ms k =
    (tt, span_store d (store_in count (pos (length vs) ∷ []) s) array vs t g ms (span_store d s count (pos (length vs) ∷ []) n h (m, tt) k))
counted_store d s line count array vs n t false h g m ms k = k

pub part_stored : (d : Declared) (s : Store) (x : Spot) (t : PartType) (p : Part) → SpotHas d x t → PartFits t p → StoreHas d s → Keeps d Any (store_part x p s)
part_stored d s (At cells) (OneOf t) (One u v) h m k = (tt, span_store d s cells (v ∷ []) t h (m.1, tt) k)
part_stored d s (At cells) (OneOf t) (Many u vs) h m k = absurd m
part_stored d s (At cells) (OneOf t) (Counted u vs) h m k = absurd m
part_stored d s (At cells) (ManyOf sizes t) (One u v) h m k = absurd m
part_stored d s (At cells) (ManyOf sizes t) (Many u vs) h m k = (tt, span_store d s cells vs t h m.2 k)
part_stored d s (At cells) (ManyOf sizes t) (Counted u vs) h m k = absurd m
part_stored d s (At cells) (CountedOf n t) p h m k = absurd h
part_stored d s (AtCounted line count array) (OneOf t) p h m k = absurd h
part_stored d s (AtCounted line count array) (ManyOf sizes t) p h m k = absurd h
part_stored d s (AtCounted line count array) (CountedOf n t) (One u v) h m k = absurd m
part_stored d s (AtCounted line count array) (CountedOf n t) (Many u vs) h m k = absurd m
part_stored d s (AtCounted line count array) (CountedOf n t) (Counted u vs) h m k =
    counted_store d s line count array vs n t (nat_le (length vs) (count_of array)) h.0 h.1 m.1 m.2 k

pub parts_stored : (d : Declared) (s : Store) (xs : List Spot) (ts : List PartType) (ps : List Part) → SpotsHave d ts xs → PartsFit ts ps → StoreHas d s → Keeps d Any (store_parts xs ps s)
parts_stored d s [] ts ps h m k = (tt, k)
parts_stored d s (x ∷ xs) ts [] h m k = (tt, k)
parts_stored d s (x ∷ xs) [] (p ∷ ps) h m k = absurd h
parts_stored d s (x ∷ xs) (t ∷ ts) (p ∷ ps) h m k =
    keeps_then d Any Any (store_part x p s) (λ y s'. store_parts xs ps s') (part_stored d s x t p h.0 m.0 k) (λ y s' u k'. parts_stored d s' xs ts ps h.1 m.1 k')

pub stored_into : (d : Declared) (s : Store) (xs : List Target) (ts : List PartType) (ps : List Part) → TargetsHave d xs ts → PartsFit ts ps → StoreHas d s → Keeps d Any (store_into xs ps s)
stored_into d s xs ts ps h m k =
    keeps_then d (SpotsHave d ts) Any (in_store (spots_of xs s) s) (λ ats s'. store_parts ats ps s') (keeps_in d (SpotsHave d ts) (spots_of xs s) s (spots_have d s xs ts h) k)
    (λ ats s' u k'. parts_stored d s' ats ts ps u m k')

pub assigned_has : (d : Declared) (s : Store) (xs : List Target) (is : List Item) (ts : List PartType) → ItemsHave d is ts → TargetsHave d xs ts → StoreHas d s → Keeps d Any (assigned xs is s)
assigned_has d s xs is ts h g k =
    keeps_then d (PartsFit ts) Any (in_store (parts_of is s) s) (λ ps s'. store_into xs ps s') (keeps_in d (PartsFit ts) (parts_of is s) s (parts_have d s is ts h k) k)
    (λ ps s' u k'. stored_into d s' xs ts ps g u k')

-- ---- declarations

zero_of : (t : Primitive) → IsTrue (is_of t (pos 0))
zero_of Boolean = refl
zero_of Byte = refl
zero_of Int = refl

zeros_typed : (t : Primitive) (n : ℕ) → AllOf t (replicate n (pos 0))
zeros_typed t zero = tt
zeros_typed t (suc n) = (zero_of t, zeros_typed t n)

named_store : (d : Declared) (s : Store) (first : ℕ) (sizes : List ℕ) (t : Primitive) (p : Part) → CellsHave d.types (span first (product sizes)) t → PartFits (simple_part sizes t) p → StoreHas d s → StoreHas d (store_from first (values_in p) s)
named_store d s first [] t (One u v) h m k = values_store d s first (v ∷ []) t h (m.1, tt) k
named_store d s first [] t (Many u vs) h m k = absurd m
named_store d s first [] t (Counted u vs) h m k = absurd m
named_store d s first (n ∷ ns) t (One u v) h m k = absurd m
named_store d s first (n ∷ ns) t (Many u vs) h m k = values_store d s first vs t (rw m.1 h) m.2 k
named_store d s first (n ∷ ns) t (Counted u vs) h m k = absurd m

pub declared_has : (d : Declared) (s : Store) (x : Declaration) → DeclarationHas d x → StoreHas d s → Keeps d Any (declared x s)
declared_has d s (Clearing first count) h k =
    (tt, values_store d s first (replicate count (pos 0)) h.0 (rw (length-replicate count (pos 0)) h.1) (zeros_typed h.0 count) k)
declared_has d s (Naming first value) h k =
    let t = simple_part h.1 h.0 in
    keeps_then d (PartFits t) Any (in_store (part_of value s) s) (λ p s'. Gives nothing (store_from first (values_in p) s')) (keeps_in d (PartFits t) (part_of value s) s (part_has d s value t h.2 k) k)
    (λ p s' u k'. (tt, named_store d s' first h.1 h.0 p h.3 u k'))

pub all_declared_have : (d : Declared) (s : Store) (xs : List Declaration) → DeclarationsHave d xs → StoreHas d s → Keeps d Any (all_declared xs s)
all_declared_have d s [] h k = (tt, k)
all_declared_have d s (x ∷ xs) h k =
    keeps_then d Any Any (declared x s) (λ y s'. all_declared xs s') (declared_has d s x h.0 k) (λ y s' u k'. all_declared_have d s' xs h.1 k')
