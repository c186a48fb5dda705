-- What equal lists are made of is made into equal things.
use Rattle.std.proofs.Common.{◌≡◌, ◌∙◌, ◌<◌, ap, sym, subst, ℕ, List, length, get_or, map}
use Rattle.std.proofs.lemmas.List.{get_or-map}

pub made_same : {A B : Type 0} (f : A → B) (xs ys : List A) (i : ℕ) (x y : A) → i < length xs → length xs ≡ length ys → x ≡ get_or xs i x → y ≡ get_or ys i y → map f xs ≡ map f ys → f x ≡ f y
made_same f xs ys i x y within long p q e =
    ap f p ∙ sym (get_or-map f xs i x (f x) within) ∙ ap (λ zs. get_or zs i (f x)) e ∙ get_or-map f ys i y (f x) (subst (λ n. i < n) long within) ∙ ap f (sym q)
