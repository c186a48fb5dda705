-- The product of two INTs is a word of 64 bits.
use Rattle.std.proofs.Common.{◌≡◌, ◌<◌, ◌≤◌, ◌*◌, ◌^◌, ◌*ℤ◌, true, ℕ, zero, suc, ℤ, pos, negsuc, sym, subst, w64, FitsSigned, arith}
use Rattle.std.specs.Prelude.{neg_ℤ}
use Rattle.std.specs.Int.Signed.{mag}
use Rattle.std.proofs.Math.Nat.{mul-le-mul_right}
use Rattle.std.proofs.Math.IntN.{pos-*ℤ-pos, pos-*ℤ-negsuc, negsuc-*ℤ-pos, negsuc-*ℤ-negsuc}
use Rattle.occ_term.specs.Messages.{is_of}
use Rattle.occ_term.specs.declared.primitive.Primitive.TheVariants.{Int}

mag_below : (r : ℕ) → mag (neg_ℤ (pos r)) ≤ r
mag_below zero = omega arith
mag_below (suc r) = omega arith

pub int_small : (a : ℤ) → is_of Int a ≡ true → mag a < 2 ^ 31
int_small a h = grind (arith, h)

short_product : (m n : ℕ) → m ≤ 2 ^ 31 → n ≤ 2 ^ 31 → m * n < 2 ^ 63
short_product m n h k =
    let first : m * n ≤ 2 ^ 31 * n = mul-le-mul_right n h in
    omega (arith, first, k)

pub product_fits : (a b : ℤ) → mag a < 2 ^ 31 → mag b < 2 ^ 31 → FitsSigned w64 (a *ℤ b)
product_fits (pos m) (pos n) h k =
    subst (FitsSigned w64) (sym (pos-*ℤ-pos m n)) (record { sfits = short_product m n (omega (arith, h)) (omega (arith, k)) })
product_fits (pos m) (negsuc n) h k =
    let below = mag_below (m * suc n) in
    let short = short_product m (suc n) (omega (arith, h)) (omega (arith, k)) in
    subst (FitsSigned w64) (sym (pos-*ℤ-negsuc m n)) (record { sfits = omega (arith, below, short) })
product_fits (negsuc m) (pos n) h k =
    let below = mag_below (suc m * n) in
    let short = short_product (suc m) n (omega (arith, h)) (omega (arith, k)) in
    subst (FitsSigned w64) (sym (negsuc-*ℤ-pos m n)) (record { sfits = omega (arith, below, short) })
product_fits (negsuc m) (negsuc n) h k =
    subst (FitsSigned w64) (sym (negsuc-*ℤ-negsuc m n)) (record { sfits = short_product (suc m) (suc n) (omega (arith, h)) (omega (arith, k)) })
