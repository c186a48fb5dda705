-- A refusal as an object of JSON.
-- Manual: nothing; this is (own).
use Rattle.std.specs.Prelude.{List, None, Option, Some, Vec, [], codes, drop, if◌then◌else◌, length, map, max, min, option_map, suc, ℕ, ◌-◌, ◌+◌, ◌==◌, ◌∷◌, ◌≡◌}
use Rattle.occ_explaining.specs.Explaining.{NumberAndLine, IsToldAs, refusal_in}
use Rattle.occ_explaining.specs.Files.{SourceFiles, place_told}
use Rattle.occ_explaining.specs.declared.refusal_names.TheConstants.{NAMES}
use Rattle.occ_explain.specs.Places.{line_numbered}
use Rattle.occ_explain.specs.declared.explaining.Explanation.{Explanation}
use Rattle.occ_shown.specs.Objects.{number, text, exactly, object_json}
use Rattle.occ_play.specs.declared.fault.PlayFault.{PlayFault}
use Rattle.occ_text.specs.Spelling.{is_name_part}

-- ---- a word

-- how many letters, digits and dots a text begins with
abbrev pub name_length : List ℕ → ℕ
name_length [] = 0
name_length (b ∷ bytes) = if is_name_part b then suc (name_length bytes) else 0

-- The column behind the word that stands in a column: behind its letters, or behind the one byte that is none; in the column itself,
-- where that is behind the last byte of the line.
abbrev pub word_end : (line : List ℕ) → (column : ℕ) → ℕ
word_end line column =
    let before = min (column - 1) (length line) in
    before + max (name_length (drop before line)) (min (length line - before) 1) + 1

-- ---- a refusal

-- the name beside a number
abbrev pub refusal_name_in : List (ℕ × List ℕ) → ℕ → List ℕ
refusal_name_in [] n = []
refusal_name_in (row ∷ rows) n = if row.0 == n then row.1 else refusal_name_in rows n

-- the name that docs/language.md has for the refusals of a number
unfoldable pub refusal_name : ℕ → List ℕ
refusal_name n = refusal_name_in (map (λ row. (row.0, row.1.now)) NAMES) n

abbrev pub refusal_json : (file : List ℕ) → (n line column : ℕ) → (shown wrong hint : List ℕ) → List ℕ
refusal_json file n line column shown wrong hint = object_json (codes "refused") (
    (codes "file", exactly file) ∷ (codes "line", number line) ∷ (codes "column", number column)
    ∷ (codes "end", number (word_end shown column)) ∷ (codes "number", number n) ∷ (codes "name", text (refusal_name n))
    ∷ (codes "text", text wrong) ∷ (codes "hint", text hint) ∷ [])

-- of an explanation
abbrev pub object_told : (file : List ℕ) → (n : ℕ) → Explanation → List ℕ
object_told file n e = refusal_json file n e.line e.column e.source.now e.wrong.items e.hint.items

-- such an object for each refusal of a text, and nothing for all else
abbrev pub TellsObjectOf : (source : List ℕ) → SourceFiles → Option NumberAndLine → Option (List ℕ) → Type 0
TellsObjectOf source files None told = told ≡ None
TellsObjectOf source files (Some refusal) None = Some refusal ≡ None
TellsObjectOf source files (Some refusal) (Some bytes) =
    IsToldAs (λ line column wrong hint. refusal_json (place_told files line).0 refusal.0 (place_told files line).1 column (line_numbered source line) wrong hint) source refusal.0 refusal.1 bytes

abbrev pub TellsObject : {A : Type 0} → (source : List ℕ) → SourceFiles → PlayFault → Option (Vec ℕ A) → Type 0
TellsObject source files fault told = TellsObjectOf source files (refusal_in fault) (option_map (λ v. v.items) told)
