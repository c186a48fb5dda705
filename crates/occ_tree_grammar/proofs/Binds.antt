-- Steps that were made.
use Rattle.std.proofs.Common.{◌≡◌, List, [], ◌∷◌, ◌++◌, Bool, true, false, cond, Option, Some, None, refl, ap, ◌∙◌, sym, append_assoc}
use Rattle.occ_tree_grammar.specs.Many.{◌>>=◌, ended}

-- the value of a step that was made
pub bind_some : {A B : Type 0} (r : Option A) (f : A → Option B) (y : B) → (r >>= f) ≡ Some y → (x : A) × (r ≡ Some x) × (f x ≡ Some y)
bind_some (Some x) f y e = (x, refl, e)
bind_some None f y e = absurd cc

abbrev some : {A : Type 0} → A → Option A
some x = Some x

pub some_is : {A : Type 0} (x y : A) → some x ≡ some y → x ≡ y
some_is x y e = cc

pub guard_is : {A : Type 0} (t : Bool) (o : Option A) (y : A) → cond t o None ≡ Some y → (t ≡ true) × (o ≡ Some y)
guard_is true o y e = (refl, e)
guard_is false o y e = absurd cc

pub ended_is : {A W : Type 0} (a : A) (ws : List W) (y : A) → ended a ws ≡ Some y → (ws ≡ []) × (a ≡ y)
ended_is a [] y e = (refl, some_is a y e)
ended_is a (w ∷ ws) y e = absurd cc

-- two parts, one after the other
pub after : {W : Type 0} (xs a mid b rest : List W) → xs ≡ a ++ mid → mid ≡ b ++ rest → xs ≡ (a ++ b) ++ rest
after {W} xs a mid b rest p q = p ∙ ap (λ (t : List W). a ++ t) q ∙ sym (append_assoc a b rest)
