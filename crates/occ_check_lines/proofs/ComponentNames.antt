-- How many components there are, and their names in order.
use Rattle.std.proofs.Common.{◌≡◌, ◌∙◌, sym, ap, ℕ, zero, suc, ◌+◌, ◌-◌, ◌*◌, ◌<◌, ◌≤◌, min, List, ◌++◌, length, drop, get_or, arith, mul_assoc, mul-suc}
use Rattle.std.proofs.lemmas.List.{drop_more}
use Rattle.std.proofs.Math.ListN.{drop_of_length-le}
use mathlib.Core.List.{append_assoc, append-nil}
use Rattle.occ_term.specs.Messages.{product}
use Rattle.occ_check_meaning.specs.Scope.{Name}
use Rattle.occ_check_meaning.specs.Numbers.{from_number}

-- ---- the product of sizes, up to the most that a word holds

-- what is saturated stays so, but under a size 0
saturated : (a rest : ℕ) → min (min a 4294967295 * rest) 4294967295 ≡ min (a * rest) 4294967295
saturated a zero = grind arith
saturated a (suc rest) =
    let e = mul-suc a rest in
    let f = mul-suc (min a 4294967295) rest in
    grind (arith, e, f)

pub next_count : (sizes : List ℕ) (i count next all : ℕ) → i < length sizes → next ≡ min (count * get_or sizes i 0) 4294967295
    → min (count * product (drop i sizes)) 4294967295 ≡ all → min (next * product (drop (i + 1) sizes)) 4294967295 ≡ all
next_count sizes i count next all h e is =
    let rest = product (drop (i + 1) sizes) in
    ap (λ n. min (n * rest) 4294967295) e
    ∙ saturated (count * get_or sizes i 0) rest
    ∙ ap (λ n. min n 4294967295) (mul_assoc count (get_or sizes i 0) rest)
    ∙ ap (λ n. min (count * n) 4294967295) (sym (ap product (drop_more sizes i 0 h))) ∙ is

pub all_counted : (sizes : List ℕ) (i count all : ℕ) → length sizes ≤ i → count ≤ 4294967295 → min (count * product (drop i sizes)) 4294967295 ≡ all → count ≡ all
all_counted sizes i count all h small is =
    let none : product (drop i sizes) ≡ 1 = ap product (drop_of_length-le sizes h) in
    let e : min (count * 1) 4294967295 ≡ all = ap (λ n. min (count * n) 4294967295) (sym none) ∙ is in
    omega (arith, e)

-- ---- names from a number on

pub names_next : (f : ℕ → List Name) (size k : ℕ) (before now all : List Name) → k < size → now ≡ before ++ f k
    → before ++ from_number f (size - k) k ≡ all → now ++ from_number f (size - (k + 1)) (k + 1) ≡ all
unfolding from_number
names_next f size k before now all h e is =
    let more : size - k ≡ suc (size - (k + 1)) = omega arith in
    ap (λ (xs : List Name). xs ++ from_number f (size - (k + 1)) (k + 1)) e
    ∙ append_assoc before (f k) (from_number f (size - (k + 1)) (k + 1))
    ∙ ap (λ n. before ++ from_number f n k) (sym more) ∙ is

pub no_more_names : (f : ℕ → List Name) (size k : ℕ) (now all : List Name) → size ≤ k → now ++ from_number f (size - k) k ≡ all → now ≡ all
unfolding from_number
no_more_names f size k now all h is =
    let none : size - k ≡ 0 = omega arith in
    sym (append-nil now) ∙ ap (λ n. now ++ from_number f n k) (sym none) ∙ is
