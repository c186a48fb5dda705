-- What two operands come to.
-- Manual: nothing; this is (own).
use Rattle.std.specs.Prelude.{ℤ}
use Rattle.occ_term.specs.Values.{Evaluated, after}

-- after both, from the left
abbrev pub after_both : Evaluated ℤ → Evaluated ℤ → (ℤ → ℤ → Evaluated ℤ) → Evaluated ℤ
after_both a b f = after a (λ x. after b (λ y. f x y))
