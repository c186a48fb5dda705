-- What watchers were told behind what they had been told.
use Rattle.std.proofs.Common.{◌≡◌, ◌∙◌, ℕ, List, [], ◌∷◌, ◌++◌, length, drop, refl, sym, ap}
use mathlib.Core.List.{IsPrefix}

drop_front : {A : Type 0} (xs ys : List A) → drop (length xs) (xs ++ ys) ≡ ys
drop_front [] ys = refl
drop_front (x ∷ xs) ys = drop_front xs ys

-- what begins with a list, and has another behind it
pub told_is : {A : Type 0} (held all told list : List A) (count : ℕ) → IsPrefix held all → count ≡ length held → told ≡ drop count all → told ≡ list → all ≡ held ++ list
told_is held all told list count p counted behind is =
    let rest : told ≡ p.0 = behind ∙ ap (λ n. drop n all) counted ∙ ap (drop (length held)) (sym p.1) ∙ drop_front held p.0 in
    sym p.1 ∙ ap (λ l. held ++ l) (sym rest ∙ is)
