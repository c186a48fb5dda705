-- The components of an array lie within it.
use Rattle.std.proofs.Common.{ℕ, suc, ◌+◌, ◌*◌, ◌<◌, ◌≤◌, arith}
use Rattle.std.proofs.Math.Nat.{mul-le-mul_right, suc-mul}

pub one_more : (size i p : ℕ) → i < size → i * p + p ≤ size * p
one_more size i p within = omega (arith, mul-le-mul_right {m = suc i} {n = size} p within, suc-mul i p)
