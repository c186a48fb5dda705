-- The columns that the code comes to are those that take part, in order.
use Rattle.std.proofs.Common.{◌≡◌, ◌∙◌, ◌↔◌, ◌⊎◌, ℕ, List, [], ◌∷◌, Bool, true, false, refl, sym, ap, subst, arith}
use Rattle.std.specs.Option.{option_map_or}
use Rattle.std.specs.Prelude.{Option, Some, None, drop, insert, if◌then◌else◌, slice_get, suc, take, ◌+◌, ◌++◌}
use Rattle.std.proofs.lemmas.Bool.{eqb-true}
use Rattle.occ_term.specs.declared.communication.End.{End}
use Rattle.occ_term.specs.declared.communication.End.TheVariants.{Keyboard, Process as OfProcess, Screen, Error}
use Rattle.occ_term.specs.Runs.{Entry}
use Rattle.occ_chart.specs.Columns.{AreColumns, AreInOrder, IsListedIn, IsBeforeAll, Footing, HasFooting, HasColumn, is_before, is_end, place_for, is_column, with_end, with_ends, with_standing}

pub before_trans : (x y z : End) → is_before x y ≡ true → is_before y z ≡ true → is_before x z ≡ true
before_trans x y z a b = grind (arith)

same_end : (x y : End) → is_end x y ≡ true → x ≡ y
same_end (OfProcess m) (OfProcess n) e = ap (λ k. OfProcess k) (eqb-true m n e)
same_end Keyboard Keyboard e = refl
same_end Screen Screen e = refl
same_end Error Error e = refl
same_end x y e = cc

pub before_else : (x y : End) → is_before y x ≡ false → is_end y x ≡ false → is_before x y ≡ true
before_else x y a b = grind (arith)

slice_get_next : {A : Type 0} (y : A) (ys : List A) (k : ℕ) (a : A) → slice_get (y ∷ ys) (k + 1) ≡ Some a → slice_get ys k ≡ Some a
slice_get_next y ys k a h = let one : k + 1 ≡ suc k = omega arith in sym (ap (slice_get (y ∷ ys)) one) ∙ h

one_of : {A : Type 0} {a b : A} → ◌≡◌ {A = Option A} (Some a) (Some b) → a ≡ b
one_of q = cc

-- ---- one more

before_all : (x y : End) (zs : List End) → is_before x y ≡ true → IsBeforeAll y zs → IsBeforeAll x zs
before_all x y [] a h = tt
before_all x y (z ∷ zs) a h = (before_trans x y z a h.0, before_all x y zs a h.1)

before_with : (y x : End) (ys : List End) → is_before y x ≡ true → IsBeforeAll y ys → IsBeforeAll y (with_end x ys)
before_with y x [] a h = (a, tt)
before_with y x (z ∷ zs) a h = by (is_before z x) (is_end z x) (before_with y x zs a h.1)
  where
    by : (b c : Bool) → IsBeforeAll y (with_end x zs) → IsBeforeAll y (if b then z ∷ with_end x zs else if c then z ∷ zs else x ∷ z ∷ zs)
    by true c next = (h.0, next)
    by false true next = h
    by false false next = (a, h)

in_order : (x : End) (ys : List End) → AreInOrder ys → AreInOrder (with_end x ys)
in_order x [] h = (tt, tt)
in_order x (y ∷ ys) h = by (is_before y x) (is_end y x) refl refl (in_order x ys h.1)
  where
    by : (b c : Bool) → is_before y x ≡ b → is_end y x ≡ c → AreInOrder (with_end x ys) → AreInOrder (if b then y ∷ with_end x ys else if c then y ∷ ys else x ∷ y ∷ ys)
    by true c q r next = (before_with y x ys q h.0, next)
    by false true q r next = h
    by false false q r next = let first = before_else x y q r in ((first, before_all x y ys first h.0), h)

among_with : (z x : End) (ys : List End) → IsListedIn z (with_end x ys) ↔ ((x ≡ z) ⊎ IsListedIn z ys)
among_with z x [] = ((λ h. h), (λ h. h))
among_with z x (y ∷ ys) = by (is_before y x) (is_end y x) refl (among_with z x ys)
  where
    by : (b c : Bool) → is_end y x ≡ c → IsListedIn z (with_end x ys) ↔ ((x ≡ z) ⊎ IsListedIn z ys) → IsListedIn z (if b then y ∷ with_end x ys else if c then y ∷ ys else x ∷ y ∷ ys) ↔ ((x ≡ z) ⊎ IsListedIn z (y ∷ ys))
    by true c r next = grind (arith, next)
    by false true r next = let same = same_end y x r in grind (arith, same)
    by false false r next = ((λ h. h), (λ h. h))

-- ---- all of them

stand_among : (z : End) (xs : List End) (ss : List Footing) → IsListedIn z (with_standing xs ss) ↔ (IsListedIn z xs ⊎ HasFooting ss z)
stand_among z xs [] = grind arith
stand_among z xs (s ∷ ss) =
    let next = stand_among z (with_end (OfProcess s.process) xs) ss in
    let one = among_with z (OfProcess s.process) xs in
    grind (arith, next, one)

take_part_among : (z : End) (xs : List End) (es : List Entry) (ss : List Footing) → IsListedIn z (with_standing (with_ends xs es) ss) ↔ (IsListedIn z xs ⊎ HasColumn es ss z)
take_part_among z xs [] ss = stand_among z xs ss
take_part_among z xs (e ∷ es) ss =
    let next = take_part_among z (with_end e.receiver (with_end e.sender xs)) es ss in
    let two = among_with z e.receiver (with_end e.sender xs) in
    let one = among_with z e.sender xs in
    grind (arith, next, two, one)

stand_in_order : (xs : List End) (ss : List Footing) → AreInOrder xs → AreInOrder (with_standing xs ss)
stand_in_order xs [] h = h
stand_in_order xs (s ∷ ss) h = stand_in_order (with_end (OfProcess s.process) xs) ss (in_order (OfProcess s.process) xs h)

ends_in_order : (xs : List End) (es : List Entry) → AreInOrder xs → AreInOrder (with_ends xs es)
ends_in_order xs [] h = h
ends_in_order xs (e ∷ es) h = ends_in_order (with_end e.receiver (with_end e.sender xs)) es (in_order e.receiver (with_end e.sender xs) (in_order e.sender xs h))

pub columns_are : (es : List Entry) (ss : List Footing) → AreColumns es ss (with_standing (with_ends [] es) ss)
columns_are es ss =
    record {
      ordered = stand_in_order (with_ends [] es) ss (ends_in_order [] es tt);
      all = λ z. let h = take_part_among z [] es ss in grind (arith, h);
    }

-- ---- a place that is found is where it is put

-- the end at the place is it
pub put_same : (x : End) (ys : List End) (z : End) → slice_get ys (place_for x ys) ≡ Some z → is_end z x ≡ true → ys ≡ with_end x ys
put_same x [] z found e = cc
put_same x (y ∷ ys) z found e = by (is_before y x) refl found (λ h. put_same x ys z h e)
  where
    by : (b : Bool) → is_before y x ≡ b → slice_get (y ∷ ys) (if b then place_for x ys + 1 else 0) ≡ Some z → (slice_get ys (place_for x ys) ≡ Some z → ys ≡ with_end x ys)
        → y ∷ ys ≡ (if b then y ∷ with_end x ys else if is_end y x then y ∷ ys else x ∷ y ∷ ys)
    by true q h next = ap (λ zs. y ∷ zs) (next (slice_get_next y ys (place_for x ys) z h))
    by false q h next = let it : Some y ≡ Some z = h in rw (subst (λ w. is_end w x ≡ true) (sym (one_of it)) e) refl

-- it is none of them
pub put_new : (x : End) (ys : List End) → ((z : End) → slice_get ys (place_for x ys) ≡ Some z → is_end z x ≡ false) → take (place_for x ys) ys ++ x ∷ drop (place_for x ys) ys ≡ with_end x ys
put_new x [] other = refl
put_new x (y ∷ ys) other = by (is_before y x) refl other (λ h. put_new x ys h)
  where
    by : (b : Bool) → is_before y x ≡ b → ((z : End) → slice_get (y ∷ ys) (if b then place_for x ys + 1 else 0) ≡ Some z → is_end z x ≡ false)
        → (((z : End) → slice_get ys (place_for x ys) ≡ Some z → is_end z x ≡ false) → take (place_for x ys) ys ++ x ∷ drop (place_for x ys) ys ≡ with_end x ys)
        → take (if b then place_for x ys + 1 else 0) (y ∷ ys) ++ x ∷ drop (if b then place_for x ys + 1 else 0) (y ∷ ys) ≡ (if b then y ∷ with_end x ys else if is_end y x then y ∷ ys else x ∷ y ∷ ys)
    by true q h next =
        let one : place_for x ys + 1 ≡ suc (place_for x ys) = omega arith in
        ap (λ k. take k (y ∷ ys) ++ x ∷ drop k (y ∷ ys)) one ∙ ap (λ zs. y ∷ zs) (next (λ z g. h z (ap (slice_get (y ∷ ys)) one ∙ g)))
    by false q h next = rw (h y refl) refl

-- the same, by what is asked of the place
pub put_same_at : (x : End) (ys : List End) (n : ℕ) → n ≡ place_for x ys → is_column x ys n ≡ true → ys ≡ with_end x ys
put_same_at x ys n place e = by (slice_get ys n) refl e
  where
    by : (o : Option End) → slice_get ys n ≡ o → option_map_or (λ y. is_end y x) o false ≡ true → ys ≡ with_end x ys
    by None q h = cc
    by (Some y) q h = put_same x ys y (ap (slice_get ys) (sym place) ∙ q) h

pub put_new_at : (x : End) (ys : List End) (n : ℕ) → n ≡ place_for x ys → is_column x ys n ≡ false → insert ys n x ≡ with_end x ys
put_new_at x ys n place other =
    let none : (z : End) → slice_get ys (place_for x ys) ≡ Some z → is_end z x ≡ false =
    λ z h.
    let at : slice_get ys n ≡ Some z = ap (slice_get ys) place ∙ h in
    sym (ap (λ o. option_map_or (λ y. is_end y x) o false) at) ∙ other in
    ap (λ k. take k ys ++ x ∷ drop k ys) place ∙ put_new x ys none
