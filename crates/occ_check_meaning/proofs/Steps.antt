-- Steps that may answer nothing.
use Rattle.std.proofs.Common.{◌≡◌, Option, Some, None, refl, ap, ◌∙◌}
use Rattle.occ_tree_grammar.specs.Many.{◌>>=◌}

-- the value of a step that was made
pub bind_some : {A B : Type 0} (r : Option A) (f : A → Option B) (y : B) → (r >>= f) ≡ Some y → (x : A) × (r ≡ Some x) × (f x ≡ Some y)
bind_some (Some x) f y e = (x, refl, e)
bind_some None f y e = absurd cc

-- a step that is made goes on with its value
pub then_some : {A B : Type 0} {r : Option A} (x : A) (f : A → Option B) (y : B) → r ≡ Some x → f x ≡ Some y → (r >>= f) ≡ Some y
then_some x f y e g = ap (λ r. r >>= f) e ∙ g

abbrev some : {A : Type 0} → A → Option A
some x = Some x

pub some_is : {A : Type 0} (x y : A) → some x ≡ some y → x ≡ y
some_is x y e = cc
