-- Tables of process numbers, and of counts.
-- Manual: nothing; this is (own).
use Rattle.std.specs.Prelude.{List, None, Option, Some, [], slice_get, slice_set, ℕ, ◌+◌, ◌∷◌, ◌≡◌}

abbrev pub flat : Option (Option ℕ) → Option ℕ
flat None = None
flat (Some x) = x

-- who stands at a key
abbrev pub entry_in : List (Option ℕ) → ℕ → Option ℕ
entry_in table key = flat (slice_get table key)

-- the same at each of these keys
abbrev pub set_all : List ℕ → Option ℕ → List (Option ℕ) → List (Option ℕ)
set_all [] v table = table
set_all (k ∷ ks) v table = set_all ks v (slice_set table k v)

-- some are left to be counted
pub record HasCount (counts : List ℕ) (key : ℕ) : Type 0 where
  pub fewer : ℕ
  pub is : slice_get counts key ≡ Some (fewer + 1)

-- one less is counted
pub record CountsDown (old : List ℕ) (key k left : ℕ) (new : List ℕ) : Type 0 where
  pub left_is : left ≡ k
  pub counts_are : new ≡ slice_set old key k

abbrev pub CountsOneDown : (old : List ℕ) → (key left : ℕ) → (new : List ℕ) → Type 0
CountsOneDown old key left new = (k : ℕ) → slice_get old key ≡ Some (k + 1) → CountsDown old key k left new
