-- Texts that are joined, one more.
use Rattle.std.proofs.Common.{◌≡◌, ap, refl, ℕ, List, [], ◌∷◌, ◌++◌, take}
use Rattle.occ_files.specs.Sources.{ended, ends_of, joined, line_feeds}

pub joined_snoc : (most : ℕ) (before : List ℕ) (ts : List (List ℕ)) (t : List ℕ) → joined most before (ts ++ t ∷ []) ≡ joined most (joined most before ts) (t ∷ [])
joined_snoc most before [] t = refl
joined_snoc most before (s ∷ ts) t = joined_snoc most (take most (ended before ++ s)) ts t

-- where the last of one text or more ends, once another follows
pub ends_snoc : (most : ℕ) (before s : List ℕ) (ts : List (List ℕ)) (t : List ℕ)
    → ends_of most before ((s ∷ ts) ++ t ∷ []) ≡ ends_of most before (s ∷ ts) ++ line_feeds (ended (joined most before (s ∷ ts))) ∷ []
ends_snoc most before s [] t = refl
ends_snoc most before s (r ∷ ts) t =
    ap (λ ls. line_feeds (ended (take most (ended before ++ s))) ∷ ls) (ends_snoc most (take most (ended before ++ s)) r ts t)
