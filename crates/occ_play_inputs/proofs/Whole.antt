-- Bytes that are fewer than were asked for are all bytes.
use Rattle.std.proofs.Common.{◌≡◌, ◌∙◌, ◌⊎◌, inl, inr, ℕ, ◌<◌, ◌≤◌, List, Option, None, Some, IfOk, IfSome, Result, Ok, Err, Vec, Global, length, take, ap, arith}
use Rattle.std.proofs.lemmas.List.{take_all, length-take-le}
use Rattle.occ_play_inputs.specs.declared.failure.Failure.{Failure}

by-length : (most : ℕ) (bs xs : List ℕ) → bs ≡ take most xs → length bs < most → length xs ≤ most ⊎ most < length xs → bs ≡ xs
by-length most bs xs h short (inl few) = h ∙ take_all most xs few
by-length most bs xs h short (inr many) =
    let long : length (take most xs) ≡ most = length-take-le most xs (omega (arith, many)) in
    let same : length bs ≡ length (take most xs) = ap length h in
    absurd (omega (arith, long, same, short))

either : (m n : ℕ) → m ≤ n ⊎ n < m
either m n = grind arith

whole : (most : ℕ) (bs xs : List ℕ) → bs ≡ take most xs → length bs < most → bs ≡ xs
whole most bs xs h short = by-length most bs xs h short (either (length xs) most)

-- no list of bytes is as long as the largest number
pub whole_read : (known : Option (List ℕ)) (r : Result (Vec ℕ Global) Failure)
    → IfSome known (λ xs. IfOk r (λ bytes. bytes.items ≡ take 18446744073709551615 xs)) → IfSome known (λ xs. IfOk r (λ bytes. bytes.items ≡ xs))
whole_read None r h = tt
whole_read (Some xs) (Err f) h = tt
whole_read (Some xs) (Ok bytes) h = whole 18446744073709551615 bytes.items xs h (omega (arith, bytes.ok, bytes.small))
