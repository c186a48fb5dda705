-- Names are once where none stands among those before it.
use Rattle.std.proofs.Common.{◌≡◌, ◌∙◌, sym, ap, refl, ℕ, suc, ◌+◌, ◌<◌, ◌≤◌, List, [], ◌∷◌, ◌++◌, length, drop, get_or, Bool, true, false, cond, arith}
use Rattle.std.specs.Prelude.{bytes_eq, not, ◌&&◌, ◌||◌}
use Rattle.std.specs.List.{list_any}
use Rattle.std.proofs.Math.Seq.{drop-cons}
use Rattle.std.proofs.lemmas.Bool.Decides.{same_from_decides, Decides-like}
use Rattle.std.proofs.lemmas.Slice.Eq.{bytes_eq-Decides}
use Rattle.std.proofs.lemmas.List.Folds.{list_any-append, list_any_more, list_any_none}
use Rattle.std.proofs.Math.ListN.{drop_of_length-le}
use Rattle.occ_check_meaning.specs.Scope.{Name, are_once, is_among}
use Rattle.occ_check_lines.specs.Declaration.{none_among}

-- both together
abbrev pub apart_from : List Name → List Name → Bool
apart_from seen xs = none_among seen xs && are_once xs

bytes_eq_comm : (a b : Name) → bytes_eq a b ≡ bytes_eq b a
bytes_eq_comm a b = same_from_decides (bytes_eq a b) (bytes_eq b a) (bytes_eq-Decides a b) (Decides-like (bytes_eq b a) sym sym (bytes_eq-Decides b a))

among_more : (y x : Name) (seen : List Name) → is_among y (seen ++ x ∷ []) ≡ (is_among y seen || bytes_eq y x)
among_more y x [] = by (bytes_eq y x)
  where
    by : (b : Bool) → cond b true false ≡ (false || b)
    by true = refl
    by false = refl
among_more y x (z ∷ seen) = by (bytes_eq y z) (is_among y (seen ++ x ∷ [])) (is_among y seen) (among_more y x seen)
  where
    by : (b more less : Bool) → more ≡ (less || bytes_eq y x) → cond b true more ≡ (cond b true less || bytes_eq y x)
    by true more less e = refl
    by false more less e = e

regrouped : (seen is among rest : Bool) → (not (seen || is) && (rest && not among)) ≡ ((not seen && rest) && not (cond is true among))
regrouped true is among rest = refl
regrouped false true among true = refl
regrouped false true among false = refl
regrouped false false among true = refl
regrouped false false among false = refl

none_among_more : (seen : List Name) (x : Name) (xs : List Name) → none_among (seen ++ x ∷ []) xs ≡ (none_among seen xs && not (is_among x xs))
none_among_more seen x [] = refl
none_among_more seen x (y ∷ ys) =
    ap (λ b. not b && none_among (seen ++ x ∷ []) ys) (among_more y x seen)
    ∙ ap (λ b. not (is_among y seen || bytes_eq y x) && b) (none_among_more seen x ys)
    ∙ regrouped (is_among y seen) (bytes_eq y x) (is_among x ys) (none_among seen ys)
    ∙ ap (λ b. (not (is_among y seen) && none_among seen ys) && not (cond b true (is_among x ys))) (bytes_eq_comm y x)

moved : (among none once : Bool) → (none && cond among false once) ≡ ((none && not among) && once)
moved true true once = refl
moved true false once = refl
moved false true once = refl
moved false false once = refl

none_any : {X : Type 0} (p : X → Bool) → list_any p [] ≡ false
none_any p = list_any_none p [] (λ k d h. absurd (omega arith))

any_first : {X : Type 0} (p : X → Bool) (x : X) (xs : List X) → list_any p (x ∷ xs) ≡ (p x || list_any p xs)
any_first p x xs =
    list_any-append p (x ∷ []) xs ∙ ap (λ b. b || list_any p xs) (list_any_more p (x ∷ []) 0 x (omega arith) ∙ ap (λ b. b || p x) (none_any p))

pub any_among : (x : Name) (ks : List Name) → list_any (bytes_eq x) ks ≡ is_among x ks
any_among x [] = none_any (bytes_eq x)
any_among x (k ∷ ks) = any_first (bytes_eq x) k ks ∙ by (bytes_eq x k) (list_any (bytes_eq x) ks) _ (any_among x ks)
  where
    by : (b more less : Bool) → more ≡ less → (b || more) ≡ cond b true less
    by true more less e = refl
    by false more less e = e

-- ---- of a list, name by name

step_of : (seen names : List Name) (i : ℕ) (x : Name) → i < length names → x ≡ get_or names i x
    → apart_from seen (drop i names) ≡ ((not (is_among x seen) && none_among seen (drop (i + 1) names)) && cond (is_among x (drop (i + 1) names)) false (are_once (drop (i + 1) names)))
step_of seen names i x h e =
    let next : i + 1 ≡ suc i = omega arith in
    rw (drop-cons names i x h, sym e, next) refl

pub clashes : (names : List Name) (i : ℕ) (seen : List Name) (x : Name) → i < length names → x ≡ get_or names i x → is_among x seen ≡ true
    → apart_from seen (drop i names) ≡ are_once names → are_once names ≡ false
clashes names i seen x h e is apart =
    let rest = drop (i + 1) names in
    sym apart ∙ step_of seen names i x h e
    ∙ ap (λ b. (not b && none_among seen rest) && cond (is_among x rest) false (are_once rest)) is

pub goes_on : (names : List Name) (i : ℕ) (seen now : List Name) (x : Name) → i < length names → x ≡ get_or names i x → is_among x seen ≡ false → now ≡ seen ++ x ∷ []
    → apart_from seen (drop i names) ≡ are_once names → apart_from now (drop (i + 1) names) ≡ are_once names
goes_on names i seen now x h e is more apart =
    let rest = drop (i + 1) names in
    ap (λ xs. apart_from xs rest) more
    ∙ ap (λ b. b && are_once rest) (none_among_more seen x rest)
    ∙ sym (moved (is_among x rest) (none_among seen rest) (are_once rest))
    ∙ ap (λ b. (not b && none_among seen rest) && cond (is_among x rest) false (are_once rest)) (sym is)
    ∙ sym (step_of seen names i x h e) ∙ apart

none_among_nothing : (names : List Name) → none_among [] names ≡ true
none_among_nothing [] = refl
none_among_nothing (x ∷ xs) = none_among_nothing xs

pub begins : (names keys : List Name) → length keys ≡ 0 → apart_from keys names ≡ are_once names
begins names [] e = ap (λ b. b && are_once names) (none_among_nothing names)
begins names (k ∷ keys) e = absurd (omega arith)

pub ends : (names : List Name) (i : ℕ) (seen : List Name) → length names ≤ i → apart_from seen (drop i names) ≡ are_once names → are_once names ≡ true
ends names i seen h e = sym e ∙ ap (apart_from seen) (drop_of_length-le names h)

pub keys_more : (ks now : List Name) (k x : Name) → k ≡ x → is_among x ks ≡ false → now ≡ cond (list_any (bytes_eq k) ks) ks (ks ++ k ∷ []) → now ≡ ks ++ x ∷ []
keys_more ks now k x same lacks is =
    let none : list_any (bytes_eq k) ks ≡ false = any_among k ks ∙ ap (λ y. is_among y ks) same ∙ lacks in
    is ∙ ap (λ b. cond b ks (ks ++ k ∷ [])) none ∙ ap (λ y. ks ++ y ∷ []) same

-- what an insert tells of a key, and so of the name that it is a copy of
pub told_among : (ks : List Name) (k x : Name) (added : Bool) → k ≡ x → added ≡ not (list_any (bytes_eq k) ks) → is_among x ks ≡ not added
told_among ks k x added same e = ap (λ y. is_among y ks) (sym same) ∙ sym (any_among k ks) ∙ twice_not (list_any (bytes_eq k) ks) ∙ ap not (sym e)
  where
    twice_not : (b : Bool) → b ≡ not (not b)
    twice_not true = refl
    twice_not false = refl
