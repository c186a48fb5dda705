-- Products that stop at the greatest number.
use Rattle.std.proofs.Common.{◌≡◌, ℕ, zero, suc, ◌*◌, ◌<◌, ◌≤◌, min, refl, ap, ◌∙◌, arith, mul_assoc, mul-zero, inl, inr}
use Rattle.std.specs.Prelude.{◌⊎◌}
use Rattle.std.proofs.Math.Nat.{mul-suc}

le_or_lt : (x most : ℕ) → (x ≤ most) ⊎ (most < x)
le_or_lt zero most = inl (omega arith)
le_or_lt (suc x) zero = inr (omega arith)
le_or_lt (suc x) (suc most) = elim (le_or_lt x most) [ inl h ↦ inl (omega arith) | inr h ↦ inr (omega arith) ]

saturated : (x p most y : ℕ) → y ≡ min x most → min (y * p) most ≡ min (x * p) most
saturated x zero most y e = simp mul-zero
saturated x (suc p) most y e = elim (le_or_lt x most) [
  | inl h ↦ let same : y ≡ x = omega arith in ap (λ z. min (z * suc p) most) same
  | inr h ↦ omega (arith, mul-suc y p, mul-suc x p)
]

pub saturates : (a n p most : ℕ) → min (min (a * n) most * p) most ≡ min (a * (n * p)) most
saturates a n p most = saturated (a * n) p most _ refl ∙ ap (λ z. min z most) (mul_assoc a n p)
