-- What digits stand for.
use Rattle.std.proofs.Common.{◌≡◌, ◌≤◌, ◌<◌, ℕ, zero, suc, ◌+◌, ◌-◌, ◌*◌, ◌^◌, true, false, List, [], ◌∷◌, length, take, drop, get_or, sym, ap, ◌∙◌, arith}
use Rattle.std.specs.Char.{is_ascii_alphabetic, is_ascii_digit}
use Rattle.std.specs.List.{fold}
use Rattle.std.proofs.Math.Nat.{pow-suc, mul-le-mul_left}
use Rattle.std.proofs.lemmas.Bool.Decides.{nat_tests}
use Rattle.std.proofs.lemmas.List.{take-append-drop}
use Rattle.std.proofs.lemmas.List.Sums.{fold-append, fold_more}
use Rattle.occ_text.specs.Spelling.{is_name_part, digit_of, value}

-- ---- bytes

pub letter_is_part : (b : ℕ) → is_ascii_alphabetic b ≡ true → is_name_part b ≡ true
letter_is_part b h = grind (arith, nat_tests)

pub digit_is_no_letter : (b : ℕ) → is_ascii_digit b ≡ true → is_ascii_alphabetic b ≡ false
digit_is_no_letter b h = grind (arith, nat_tests)

pub digit_is_small : (d : ℕ) → digit_of d < 16
digit_is_small d = grind (arith, nat_tests)

-- ---- a pattern has 32 bits

more_room : (j k : ℕ) → 16 ^ k ≤ 16 ^ (j + k)
more_room zero k = let e : 0 + k ≡ k = omega arith in rw e (omega arith)
more_room (suc j) k =
    let e : suc j + k ≡ suc (j + k) = omega arith in
    let h = more_room j k in
    rw (e, pow-suc 16 (j + k)) (omega arith)

grows : (digits : List ℕ) (n k : ℕ) → n < 16 ^ k → fold (λ n d. 16 * n + digit_of d) n digits < 16 ^ (k + length digits)
grows [] n k h = let e : k + 0 ≡ k = omega arith in rw e h
grows (d ∷ digits) n k h =
    let e : k + suc (length digits) ≡ suc k + length digits = omega arith in
    let small = digit_is_small d in
    let one : 16 * n + digit_of d < 16 ^ suc k = rw (pow-suc 16 k) (omega (arith, small)) in
    rw e (grows digits (16 * n + digit_of d) (suc k) one)

pub pattern_fits : (digits : List ℕ) → length digits ≤ 8 → value 16 digits < 4294967296
pattern_fits digits h =
    let g = grows digits 0 0 (omega arith) in
    let e : 8 - length digits + (0 + length digits) ≡ 8 = omega arith in
    let r = rw e at (more_room (8 - length digits) (0 + length digits)) in
    omega (arith, g, r)

-- ---- more digits stand for no less

fold_grows : (base : ℕ) (digits : List ℕ) (n : ℕ) → 0 < base → n ≤ fold (λ n d. base * n + digit_of d) n digits
fold_grows base [] n pos = omega arith
fold_grows base (d ∷ digits) n pos =
    let h = fold_grows base digits (base * n + digit_of d) pos in
    let one : 1 ≤ base = omega arith in
    let m : n ≤ base * n = omega (arith, mul-le-mul_left n one) in
    omega (arith, h, m)

pub value-take : (base : ℕ) (digits : List ℕ) (i : ℕ) → 0 < base → value base (take i digits) ≤ value base digits
value-take base digits i pos =
    let e : value base digits ≡ fold (λ n d. base * n + digit_of d) (value base (take i digits)) (drop i digits) = ap (value base) (sym (take-append-drop i digits)) ∙ fold-append (λ n d. base * n + digit_of d) 0 (take i digits) (drop i digits) in
    rw e (fold_grows base (drop i digits) (value base (take i digits)) pos)

-- one digit more is within the whole
pub value_so_far : (base : ℕ) (digits : List ℕ) (i : ℕ) → 0 < base → i < length digits → base * value base (take i digits) + digit_of (get_or digits i 0) ≤ value base digits
value_so_far base digits i pos lt = rw (fold_more (λ n d. base * n + digit_of d) 0 digits i 0 lt) at (value-take base digits (i + 1) pos)
