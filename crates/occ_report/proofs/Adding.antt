-- One entry more of a table.
use Rattle.std.proofs.Common.{Bool, List, Some, [], false, get_or, if◌then◌else◌, map, suc, take, true, zero, ℕ, ◌++◌, ◌+◌, ◌<◌, ◌∷◌, ◌≡◌, ◌∙◌, ap, arith, length, refl, subst, sym}
use Rattle.std.specs.List.{All, slice_get}
use Rattle.std.proofs.lemmas.List.{length-append, length-map, length-take-le, map-append, take_more}
use Rattle.std.proofs.lemmas.List.Elements.{All-append, All-cons, All-nil}
use Rattle.std.proofs.lemmas.Option.{none-some, slice_get_read}
use Rattle.occ_machine.specs.Machine.{Body}
use Rattle.occ_machine.specs.declared.instr.Instr.{Instr}
use Rattle.occ_text.specs.Words.{LogicalLine}
use Rattle.occ_report.specs.Located.{known}
use Rattle.occ_report.specs.Calls.{IsCallIn}
use Rattle.occ_report.specs.Places.{AreStopsIn, IsNameOf, Known, is_stop, stop_places}
use Rattle.occ_report.specs.declared.places.Located.{Located}

-- what holds of each element by its place holds of one more
pub pushed : {A : Type 0} (P : ℕ → A → Type 0) (xs : List A) (x : A) → ((n : ℕ) (y : A) → slice_get xs n ≡ Some y → P n y) → P (length xs) x
    → (n : ℕ) (y : A) → slice_get (xs ++ x ∷ []) n ≡ Some y → P n y
pushed P [] x all more zero y e = let same : x ≡ y = cc in subst (P 0) same more
pushed P [] x all more (suc n) y e = absurd (none-some y e)
pushed P (z ∷ xs) x all more zero y e = all zero y e
pushed P (z ∷ xs) x all more (suc n) y e = pushed (λ m. P (suc m)) xs x (λ m. all (suc m)) more n y e

-- one process more
pub process_added : (bodies : List Body) (lines : List LogicalLine) (before after : List Located) (l : Located) (n : ℕ) → after ≡ before ++ l ∷ [] → length before ≡ n
    → ((m : ℕ) (k : Known) → slice_get (map known before) m ≡ Some k → AreStopsIn bodies lines m k.stops)
    → AreStopsIn bodies lines n l.stops.items
    → (m : ℕ) (k : Known) → slice_get (map known after) m ≡ Some k → AreStopsIn bodies lines m k.stops
process_added bodies lines before after l n is counted all more m k e =
    let P : ℕ → Known → Type 0 = λ i j. AreStopsIn bodies lines i j.stops in
    let at : n ≡ length (map known before) = sym counted ∙ sym (length-map before known) in
    let same : map known after ≡ map known before ++ known l ∷ [] = ap (map known) is ∙ map-append known before (l ∷ []) in
    let there : slice_get (map known before ++ known l ∷ []) m ≡ Some k = ap (λ ks. slice_get ks m) (sym same) ∙ e in
    pushed P (map known before) (known l) all (subst (λ i. P i (known l)) at more) m k there

pub name_added : (lines : List LogicalLine) (before after : List Located) (l : Located) → after ≡ before ++ l ∷ []
    → All (λ k. IsNameOf lines k.name) (map known before) → IsNameOf lines l.name.items → All (λ k. IsNameOf lines k.name) (map known after)
name_added lines before after l is all more =
    let P : Known → Type 0 = λ k. IsNameOf lines k.name in
    let same : map known after ≡ map known before ++ known l ∷ [] = ap (map known) is ∙ map-append known before (l ∷ []) in
    subst (All P) (sym same) (All-append P (map known before) (known l ∷ []) all (All-cons P (known l) [] more (All-nil P)))

pub calls_added : (lines : List LogicalLine) (before after : List Located) (l : Located) → after ≡ before ++ l ∷ []
    → All (λ k. All (IsCallIn lines) k.calls) (map known before) → All (IsCallIn lines) l.calls.items → All (λ k. All (IsCallIn lines) k.calls) (map known after)
calls_added lines before after l is all more =
    let P : Known → Type 0 = λ k. All (IsCallIn lines) k.calls in
    let same : map known after ≡ map known before ++ known l ∷ [] = ap (map known) is ∙ map-append known before (l ∷ []) in
    subst (All P) (sym same) (All-append P (map known before) (known l ∷ []) all (All-cons P (known l) [] more (All-nil P)))

pub one_more : {A : Type 0} (before after : List A) (x : A) (n : ℕ) → after ≡ before ++ x ∷ [] → length before ≡ n → length after ≡ n + 1
one_more before after x n is counted = ap length is ∙ length-append before (x ∷ []) ∙ ap (λ m. m + 1) counted

joined : (b : Bool) (p : ℕ) (xs ys zs : List ℕ) → zs ≡ xs ++ ys → (if b then p ∷ zs else zs) ≡ (if b then p ∷ xs else xs) ++ ys
joined true p xs ys zs e = ap (λ l. p ∷ l) e
joined false p xs ys zs e = e

-- the stops of a code that is one instruction longer
pub one_place_more : (code : List (Instr ℕ)) (i : Instr ℕ) (p : ℕ)
    → stop_places p (code ++ i ∷ []) ≡ stop_places p code ++ (if is_stop i then (p + length code) ∷ [] else [])
one_place_more [] i p = let at : p ≡ p + 0 = omega arith in ap (λ n. if is_stop i then n ∷ [] else []) at
one_place_more (j ∷ code) i p =
    let at : (p + 1) + length code ≡ p + suc (length code) = omega arith in
    joined (is_stop j) p (stop_places (p + 1) code) (if is_stop i then (p + suc (length code)) ∷ [] else []) (stop_places (p + 1) (code ++ i ∷ []))
    (one_place_more code i (p + 1) ∙ ap (λ n. stop_places (p + 1) code ++ (if is_stop i then n ∷ [] else [])) at)

-- what is at a place of a code
pub read_there : (code : List (Instr ℕ)) (p : ℕ) (x : Instr ℕ) → p < length code → x ≡ get_or code p x → slice_get code p ≡ Some x
read_there code p x h e = slice_get_read code (length code) p x refl h e

-- the stops up to a place, and that place
pub place_met : (code : List (Instr ℕ)) (p : ℕ) (x : Instr ℕ) (before after : List ℕ) → p < length code → x ≡ get_or code p x
    → before ≡ stop_places 0 (take p code) → after ≡ before ++ (if is_stop x then p ∷ [] else [])
    → after ≡ stop_places 0 (take (p + 1) code)
place_met code p x before after h e met more =
    let longer : take (p + 1) code ≡ take p code ++ x ∷ [] = take_more code p x h ∙ ap (λ y. take p code ++ y ∷ []) (sym e) in
    let there : length (take p code) ≡ p = length-take-le p code (omega arith) in
    let at : 0 + length (take p code) ≡ p = omega arith in
    more ∙ ap (λ l. l ++ (if is_stop x then p ∷ [] else [])) met
    ∙ sym (ap (stop_places 0) longer ∙ one_place_more (take p code) x 0
    ∙ ap (λ n. stop_places 0 (take p code) ++ (if is_stop x then n ∷ [] else [])) at)
