-- Each refusal has a cause in words.
use Rattle.std.proofs.Common.{Bool, List, [], codes, false, if◌then◌else◌, length, map, true, ℕ, ◌&&◌, ◌==◌, ◌≤◌, ◌∷◌, ◌≡◌, arith, refl, sym}
use Rattle.std.proofs.Math.Bool.{true≢false}
use Rattle.occ_explain.specs.Causes.{cause_of, text_in}
use Rattle.occ_explain.specs.declared.cause_table.TheConstants.{CAUSES}

has_words : List ℕ → Bool
has_words [] = false
has_words (b ∷ bytes) = true

have_words : List (ℕ × List ℕ) → Bool
have_words [] = true
have_words (row ∷ rows) = has_words row.1 && have_words rows

in_words : (rows : List (ℕ × List ℕ)) (n : ℕ) (otherwise : List ℕ) → 1 ≤ length otherwise → have_words rows ≡ true → 1 ≤ length (text_in rows n otherwise)
unfolding have_words has_words
in_words [] n otherwise some all = some
in_words ((m, []) ∷ rows) n otherwise some all = absurd (true≢false (sym all))
in_words ((m, b ∷ bytes) ∷ rows) n otherwise some all =
    either (m == n) (b ∷ bytes) (text_in rows n otherwise) (omega arith) (in_words rows n otherwise some all)
  where
    either : (c : Bool) (xs ys : List ℕ) → 1 ≤ length xs → 1 ≤ length ys → 1 ≤ length (if c then xs else ys)
    either true xs ys h k = h
    either false xs ys h k = k

pub cause_in_words : (n : ℕ) → 1 ≤ length (cause_of n)
unfolding cause_of have_words has_words
cause_in_words n = in_words (map (λ row. (row.0, row.1.now)) CAUSES) n (codes "the text is refused") (omega arith) refl
