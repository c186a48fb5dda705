-- A path in its place.
use Rattle.std.proofs.Common.{◌≡◌, ◌<◌, ◌≤◌, ◌∷◌, Bor, List, [], ap, arith, get_or, length, refl, suc, zero, ℕ}
use Rattle.occ_program.specs.Troubles.{path_at}

pub found : (paths : List (Bor (List ℕ))) (k : ℕ) (b : Bor (List ℕ)) → k < length paths → b ≡ get_or paths k b → b.now ≡ path_at paths k
found [] k b within is = absurd (omega (arith, within))
found (p ∷ ps) zero b within is = ap (λ v. v.now) is
found (p ∷ ps) (suc k) b within is = found ps k b (omega (arith, within)) is

pub none_found : (paths : List (Bor (List ℕ))) (k : ℕ) → length paths ≤ k → [] ≡ path_at paths k
none_found [] k past = refl
none_found (p ∷ ps) zero past = absurd (omega (arith, past))
none_found (p ∷ ps) (suc k) past = none_found ps k (omega (arith, past))
