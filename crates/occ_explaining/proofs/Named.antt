-- The name of a file, by its number.
use Rattle.std.proofs.Common.{◌≡◌, ◌<◌, ◌∷◌, Bor, List, [], ap, arith, get_or, length, map, subst, suc, zero, ℕ}
use Rattle.occ_explaining.specs.Files.{name_numbered}

later_name : (more : List (Bor (List ℕ))) (k : ℕ) (b : Bor (List ℕ)) (first : List ℕ) → k < length more → b ≡ get_or more k b → b.now ≡ get_or (map (λ m. m.now) more) k first
later_name [] k b first within is = absurd (omega (arith, within))
later_name (m ∷ ms) zero b first within is = ap (λ v. v.now) is
later_name (m ∷ ms) (suc k) b first within is = later_name ms k b first (omega (arith, within)) is

-- the name behind the first
pub numbered : (first : List ℕ) (more : List (Bor (List ℕ))) (number k : ℕ) (b : Bor (List ℕ)) → suc k ≡ number → k < length more → b ≡ get_or more k b
    → b.now ≡ name_numbered first (map (λ m. m.now) more) number
numbered first more zero k b same within is = absurd (omega (arith, same))
numbered first more (suc n) k b same within is =
    subst (λ j. b.now ≡ get_or (map (λ m. m.now) more) j first) (omega (arith, same)) (later_name more k b first within is)
