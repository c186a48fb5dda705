-- A chain is constant where each of its operands is.
use Rattle.std.proofs.Common.{◌≡◌, true, false, refl, IsTrue}
use Rattle.std.specs.Prelude.{Bool, ◌&&◌}

pub both : (a b : Bool) → b ≡ true → (a && b) ≡ a
both true b is = is
both false b is = refl

pub one_is_none : (a b : Bool) → b ≡ false → (a && b) ≡ false
one_is_none true b is = is
one_is_none false b is = refl

pub first_of_both : (a b : Bool) → IsTrue (a && b) → IsTrue a
first_of_both true b are = refl
first_of_both false b are = are

pub second_of_both : (a b : Bool) → IsTrue (a && b) → IsTrue b
second_of_both true b are = are
second_of_both false b are = absurd cc
