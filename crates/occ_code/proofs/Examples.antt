-- The premises of the theorem can be met.
use Rattle.std.specs.Prelude.{if◌then◌else◌, nat_eq, nat_le, nat_lt}
use Rattle.std.proofs.Common.{◌≡◌, ◌<◌, ℕ, zero, suc, Bool, true, false, IsTrue, [], ◌∷◌, None, Some, refl, ap, arith}
use Rattle.std.proofs.lemmas.Bool.Decides.{nat_tests}
use Rattle.occ_term.specs.declared.primitive.Primitive.TheVariants.{Int}
use Rattle.occ_term.specs.Typing.{takes_arithmetic, takes_order}
use Rattle.occ_term.specs.declared.primitive.Primitive.{Primitive}
use Rattle.occ_term.specs.Values.{span}
use Rattle.occ_term.specs.Uses.{numbers_in, uses_of}
use Rattle.occ_term.proofs.TypedPlaces.{in_span}
use Rattle.occ_machine.specs.Machine.{is_number}
use Rattle.occ_term.specs.Frames.{is_held}
use Rattle.occ_machine.specs.SameStop.{Lists, used_by}
use Rattle.occ_code.specs.Examples.{counts, whole_numbers, CountsAsCompiled, first_of_two, FirstOfTwoAsCompiled, twice, TwiceAsCompiled, twice_two, TwiceTwoAsCompiled}
use Rattle.occ_code.specs.Within.{AreNumbered}
use Rattle.occ_code.proofs.LaidOut.{compiled_do}

below_three : (c : ℕ) → c < 3 → nat_lt c 3 ≡ true
below_three c h = grind (arith, nat_tests)

of_three : (c : ℕ) (t : Primitive) (b : Bool) → nat_lt c 3 ≡ b → (if b then Some Int else None) ≡ Some t → IsTrue (is_number c)
of_three c t true e h = grind (arith, nat_tests)
of_three c t false e h = cc

few : AreNumbered whole_numbers
few = record { cells = λ c t h. of_three c t (nat_lt c 3) refl h; channels = λ c p h. cc }

-- one of the three cells, declared
one_cell : (first : ℕ) → first < 3 → (c : ℕ) → IsTrue (numbers_in (span first 1) c) → whole_numbers.types c ≡ Some Int
one_cell first h c m =
    let (l, g) = in_span first 1 c m in
    let below : c < 3 = omega (arith, h, l, g) in
    ap (λ b. if b then Some Int else None) (below_three c below)

below : (n : ℕ) → nat_le 0 (suc n) ≡ true
below n = grind (arith, nat_tests)

other : (n : ℕ) → nat_eq 0 (suc n) ≡ false
other n = grind (arith, nat_tests)

past : (n : ℕ) → nat_lt (suc n) 1 ≡ false
past n = grind (arith, nat_tests)

used : Lists (0 ∷ []) (used_by (uses_of counts))
used = record { rising = tt; members = λ n. of_cell n }
  where
    of_cell : (n : ℕ) → is_held (0 ∷ []) n ≡ used_by (uses_of counts) n
    of_cell zero = refl
    of_cell (suc n) = rw (below n, other n, past n) refl

written : Lists (0 ∷ []) (uses_of counts).writes
written = record { rising = tt; members = λ n. of_cell n }
  where
    of_cell : (n : ℕ) → is_held (0 ∷ []) n ≡ (uses_of counts).writes n
    of_cell zero = refl
    of_cell (suc n) = rw (below n, other n, past n) refl

pub counts_as_compiled : CountsAsCompiled
counts_as_compiled =
    compiled_do whole_numbers counts (0 ∷ []) (0 ∷ []) 1 few (omega arith)
    ((Int, takes_order refl refl, refl, refl), ((Int, []) ∷ [], ((refl, (Int, takes_arithmetic refl refl, refl, refl)), tt), ((one_cell 0 (omega arith), refl), tt)))
    used written (omega arith)

twice_used : Lists (0 ∷ []) (used_by (uses_of twice))
twice_used = record { rising = tt; members = λ n. of_cell n }
  where
    of_cell : (n : ℕ) → is_held (0 ∷ []) n ≡ used_by (uses_of twice) n
    of_cell zero = refl
    of_cell (suc n) = rw (other n) refl

twice_written : Lists (0 ∷ []) (uses_of twice).writes
twice_written = record { rising = tt; members = λ n. of_cell n }
  where
    of_cell : (n : ℕ) → is_held (0 ∷ []) n ≡ (uses_of twice).writes n
    of_cell zero = refl
    of_cell (suc n) = rw (other n) refl

pub twice_as_compiled : TwiceAsCompiled
twice_as_compiled = compiled_do whole_numbers twice (0 ∷ []) (0 ∷ []) 1 few (omega arith) ((refl, refl, refl), refl, tt) twice_used twice_written (omega arith)

two_used : Lists (0 ∷ []) (used_by (uses_of twice_two))
two_used = record { rising = tt; members = λ n. of_cell n }
  where
    of_cell : (n : ℕ) → is_held (0 ∷ []) n ≡ used_by (uses_of twice_two) n
    of_cell zero = refl
    of_cell (suc n) = rw (other n) refl

two_written : Lists (0 ∷ []) (uses_of twice_two).writes
two_written = record { rising = tt; members = λ n. of_cell n }
  where
    of_cell : (n : ℕ) → is_held (0 ∷ []) n ≡ (uses_of twice_two).writes n
    of_cell zero = refl
    of_cell (suc n) = rw (other n) refl

pub twice_two_as_compiled : TwiceTwoAsCompiled
twice_two_as_compiled = compiled_do whole_numbers twice_two (0 ∷ []) (0 ∷ []) 1 few (omega arith) ((refl, refl, refl), refl, (tt, (tt, tt))) two_used two_written (omega arith)

no_more : (a n : ℕ) → a < 3 → nat_eq a (suc (suc (suc n))) ≡ false
no_more a n h = grind (arith, nat_tests)

at_least : (a n : ℕ) → a < 3 → nat_le a (suc (suc (suc n))) ≡ true
at_least a n h = grind (arith, nat_tests)

not_below : (a n : ℕ) → a < 4 → nat_lt (suc (suc (suc n))) a ≡ false
not_below a n h = grind (arith, nat_tests)

three_used : Lists (0 ∷ 1 ∷ 2 ∷ []) (used_by (uses_of first_of_two))
three_used = record { rising = (omega arith, (omega arith, tt)); members = λ n. of_cell n }
  where
    of_cell : (n : ℕ) → is_held (0 ∷ 1 ∷ 2 ∷ []) n ≡ used_by (uses_of first_of_two) n
    of_cell zero = refl
    of_cell (suc zero) = refl
    of_cell (suc (suc zero)) = refl
    of_cell (suc (suc (suc n))) =
        rw (no_more 0 n (omega arith), no_more 1 n (omega arith), no_more 2 n (omega arith), at_least 1 n (omega arith), at_least 2 n (omega arith), not_below 2 n (omega arith), not_below 3 n (omega arith)) refl

three_written : Lists (0 ∷ 1 ∷ 2 ∷ []) (uses_of first_of_two).writes
three_written = record { rising = (omega arith, (omega arith, tt)); members = λ n. of_cell n }
  where
    of_cell : (n : ℕ) → is_held (0 ∷ 1 ∷ 2 ∷ []) n ≡ (uses_of first_of_two).writes n
    of_cell zero = refl
    of_cell (suc zero) = refl
    of_cell (suc (suc zero)) = refl
    of_cell (suc (suc (suc n))) =
        rw (no_more 0 n (omega arith), no_more 1 n (omega arith), no_more 2 n (omega arith), at_least 1 n (omega arith), at_least 2 n (omega arith), not_below 2 n (omega arith), not_below 3 n (omega arith)) refl

pub first_of_two_as_compiled : FirstOfTwoAsCompiled
first_of_two_as_compiled =
    compiled_do whole_numbers first_of_two (0 ∷ 1 ∷ 2 ∷ []) (0 ∷ 1 ∷ 2 ∷ []) 1 few (omega arith)
    ((refl, refl, refl), refl, ((Int, [], (refl, refl), one_cell 1 (omega arith)), (refl, ((Int, []) ∷ [], ((refl, refl), tt), ((one_cell 2 (omega arith), refl), tt)), tt), tt), tt) three_used three_written (omega arith)
