-- Strings of the code are arrays of bytes.
use Rattle.std.proofs.Common.{◌≡◌, ℕ, suc, ◌<◌, ◌≤◌, List, [], ◌∷◌, get_or, length, map, pos, Bool, true, refl, ap, arith}
use Rattle.std.specs.Prelude.{Some, ◌&&◌, nat_le}
use Rattle.std.proofs.lemmas.Bool.{le-leb}
use Rattle.std.proofs.lemmas.List.{length-map}
use Rattle.occ_check_meaning.specs.Scope.{keep}
use Rattle.occ_check_meaning.specs.Expressions.{are_bytes, string_of}

both : (a b : Bool) → a ≡ true → b ≡ true → (a && b) ≡ true
both a b p q = cc

bytes_are : (bs : List ℕ) → ((k : ℕ) → get_or bs k 0 < 256) → are_bytes (map pos bs) ≡ true
bytes_are [] h = refl
bytes_are (b ∷ bs) h = both _ _ (both (nat_le 0 b) (nat_le b 255) (le-leb 0 b (omega arith)) (le-leb b 255 (let first : b < 256 = h 0 in omega arith))) (bytes_are bs (λ k. h (suc k)))

-- a string that is no longer than an INT may be
pub string_is : (bs : List ℕ) → ((k : ℕ) → get_or bs k 0 < 256) → length bs ≤ 2147483647 → string_of (map pos bs) ≡ Some (map pos bs)
string_is bs h short =
    let size : length (map pos bs) ≤ 2147483647 = simp length-map short in
    ap (λ test. keep test (map pos bs)) (both _ _ (bytes_are bs h) (le-leb (length (map pos bs)) 2147483647 size))
