-- Names of components.
use Rattle.std.proofs.Common.{◌≡◌, ◌∙◌, ◌++◌, ◌+◌, ◌<◌, sym, ap, refl, ℕ, suc, List, [], ◌∷◌, arith, get_or, length, take}
use Rattle.std.proofs.Math.Seq.{take-suc}
use Rattle.std.proofs.lemmas.List.{append_assoc}
use Rattle.std.specs.Fmt.{decimal}
use Rattle.occ_term.specs.Names.{component_name, with_subscripts}

pub no_subscripts : (x : List ℕ) → with_subscripts x [] ≡ x
unfolding with_subscripts
no_subscripts x = refl

-- one subscript more
pub one_more_subscript : (x ks : List ℕ) (k : ℕ) → with_subscripts x (ks ++ k ∷ []) ≡ component_name (with_subscripts x ks) k
unfolding with_subscripts
one_more_subscript x [] k = refl
one_more_subscript x (j ∷ ks) k = one_more_subscript (component_name x j) ks k

-- behind other letters
pub subscripts_behind : (o x ks : List ℕ) → with_subscripts (o ++ x) ks ≡ o ++ with_subscripts x ks
unfolding with_subscripts
subscripts_behind o x [] = refl
subscripts_behind o x (k ∷ ks) = ap (λ y. with_subscripts y ks) (append_assoc o x (91 ∷ (decimal k ++ 93 ∷ []))) ∙ subscripts_behind o (component_name x k) ks

pub next_subscript : (x ks before after : List ℕ) (i d : ℕ) → i < length ks → before ≡ with_subscripts x (take i ks) → after ≡ component_name before (get_or ks i d) → after ≡ with_subscripts x (take (i + 1) ks)
next_subscript x ks before after i d within b a =
    let same : i + 1 ≡ suc i = omega arith in
    let grown : take (i + 1) ks ≡ take i ks ++ get_or ks i d ∷ [] = ap (λ n. take n ks) same ∙ take-suc ks i d within in
    a ∙ ap (λ y. component_name y (get_or ks i d)) b ∙ sym (one_more_subscript x (take i ks) (get_or ks i d)) ∙ ap (with_subscripts x) (sym grown)

pub last_behind : (o x : List ℕ) (k : ℕ) → component_name (o ++ x) k ≡ o ++ component_name x k
last_behind o x k = append_assoc o x (91 ∷ (decimal k ++ 93 ∷ []))
