-- The operands of a chain of AND and OR, taken from the last to the first.
use Rattle.std.proofs.Common.{◌≡◌, ℤ, true, false, refl, pos}
use Rattle.std.specs.Prelude.{Bool, if◌then◌else◌}
use Rattle.occ_term.specs.Values.{Evaluated, Value, Fails, after, holds}
use Rattle.occ_term.specs.Chains.{chosen}

if_and : (b : Bool) (y on_true on_false : Evaluated ℤ) → chosen (if b then y else Value (pos 0)) on_true on_false ≡ (if b then chosen y on_true on_false else on_false)
if_and true y on_true on_false = refl
if_and false y on_true on_false = refl

if_or : (b : Bool) (y on_true on_false : Evaluated ℤ) → chosen (if b then Value (pos 1) else y) on_true on_false ≡ (if b then on_true else chosen y on_true on_false)
if_or true y on_true on_false = refl
if_or false y on_true on_false = refl

pub and_chosen : (x y on_true on_false : Evaluated ℤ) → chosen (after x (λ v. if holds v then y else Value (pos 0))) on_true on_false ≡ chosen x (chosen y on_true on_false) on_false
and_chosen (Value v) y on_true on_false = if_and (holds v) y on_true on_false
and_chosen (Fails f) y on_true on_false = refl

pub or_chosen : (x y on_true on_false : Evaluated ℤ) → chosen (after x (λ v. if holds v then Value (pos 1) else y)) on_true on_false ≡ chosen x on_true (chosen y on_true on_false)
or_chosen (Value v) y on_true on_false = if_or (holds v) y on_true on_false
or_chosen (Fails f) y on_true on_false = refl

pub and_is_chosen : (x y : Evaluated ℤ) → after x (λ v. if holds v then y else Value (pos 0)) ≡ chosen x y (Value (pos 0))
and_is_chosen (Value v) y = refl
and_is_chosen (Fails f) y = refl

pub or_is_chosen : (x y : Evaluated ℤ) → after x (λ v. if holds v then Value (pos 1) else y) ≡ chosen x (Value (pos 1)) y
or_is_chosen (Value v) y = refl
or_is_chosen (Fails f) y = refl
