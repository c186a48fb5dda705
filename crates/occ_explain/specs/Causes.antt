-- What is wrong where a text is refused.
-- Manual: nothing; this is (own).
use Rattle.std.specs.Prelude.{Bool, IsFalse, List, [], codes, if◌then◌else◌, length, map, ℕ, ◌==◌, ◌||◌, ◌∷◌, ◌≡◌, ◌≤◌, ◌<◌, ◌⊎◌}
use Rattle.occ_explain.specs.declared.cause_table.TheConstants.{CAUSES}
use Rattle.occ_explain.specs.declared.headings.TheConstants.{HEADINGS}
use mathlib.Core.List.{IsPrefix}

-- the text beside a number, and another one where it has none
abbrev pub text_in : List (ℕ × List ℕ) → ℕ → (otherwise : List ℕ) → List ℕ
text_in [] n otherwise = otherwise
text_in (row ∷ rows) n otherwise = if row.0 == n then row.1 else text_in rows n otherwise

-- the cause that docs/language.md has for the refusals of a number
unfoldable pub cause_of : ℕ → List ℕ
cause_of n = text_in (map (λ row. (row.0, row.1.now)) CAUSES) n (codes "the text is refused")

-- the heading of the refusals of a number
unfoldable pub heading_of : ℕ → List ℕ
heading_of n = text_in (map (λ row. (row.0, row.1.now)) HEADINGS) n []

-- Whether something is told in place of the cause: of bytes and literals, of words, of levels, of texts that end too early, and of
-- names.
abbrev pub is_told_closer : ℕ → Bool
is_told_closer n =
    n == 2 || n == 4 || n == 5 || n == 6 || n == 20 || n == 21 || n == 22
    || n == 30 || n == 31 || n == 50 || n == 51 || n == 52

-- what is told begins with the heading, of a refusal that has one, and goes on behind it
abbrev pub IsUnderHeading : (number : ℕ) → List ℕ → Type 0
IsUnderHeading number wrong = (1 ≤ length (heading_of number)) × IsPrefix (heading_of number) wrong × (length (heading_of number) < length wrong)

-- what is told is the cause, or stands behind the heading
abbrev pub IsCaused : (number : ℕ) → List ℕ → Type 0
IsCaused number wrong = (wrong ≡ cause_of number) ⊎ IsUnderHeading number wrong

-- so it is of any other refusal
abbrev pub TellsCause : (number : ℕ) → List ℕ → Type 0
TellsCause number wrong = IsFalse (is_told_closer number) → IsCaused number wrong
