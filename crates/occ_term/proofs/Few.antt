-- Arrays with few components.
use Rattle.std.proofs.Common.{ℕ, zero, suc, ◌<◌, ◌^◌, List, [], ◌∷◌, drop, arith}
use Rattle.occ_term.specs.Messages.{product}
use Rattle.occ_term.specs.ArraySizes.{AreFew}

pub few_product : (ns : List ℕ) → AreFew ns → product ns < 2 ^ 32
few_product [] few = omega arith
few_product (n ∷ ns) few = few.0

pub few_behind : (k : ℕ) (ns : List ℕ) → AreFew ns → AreFew (drop k ns)
few_behind zero ns few = few
few_behind (suc k) [] few = tt
few_behind (suc k) (n ∷ ns) few = few_behind k ns few.1
