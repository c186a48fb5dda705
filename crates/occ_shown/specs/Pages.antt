-- A page that shows runs: texts between the beginning and the end that each page has.
-- Manual: nothing; this is (own).
use Rattle.std.specs.Prelude.{All, List, Vec, [], codes, if◌then◌else◌, nat_lt, ℕ, ◌%◌, ◌++◌, ◌/◌, ◌==◌, ◌||◌, ◌∷◌, ◌≡◌, ◌≢◌}
use Rattle.occ_shown.specs.Objects.{hex_digit}
use Rattle.occ_shown.specs.declared.page_foot.TheConstants.{FOOT}
use Rattle.occ_shown.specs.declared.page_head.TheConstants.{HEAD}
use Rattle.occ_shown.specs.declared.pages.RunTexts.{RunTexts}

-- `<` and a backslash are `\u` and four digits, and so is a byte below 32 that ends no line
abbrev pub shielded_byte : ℕ → List ℕ
shielded_byte b =
    if b == 10 then b ∷ [] else
    if nat_lt b 32 || b == 60 || b == 92 then codes "\\u00" ++ hex_digit (b / 16) ∷ hex_digit (b % 16) ∷ [] else b ∷ []

-- each byte of a text
abbrev pub shielded : List ℕ → List ℕ
shielded [] = []
shielded (b ∷ bs) = shielded_byte b ++ shielded bs

-- behind it a form feed
abbrev pub shielded_text : List ℕ → List ℕ
shielded_text bs = shielded bs ++ 12 ∷ []

-- of a run the line that is told of it, its trace, its turns, and the report on its end
abbrev pub run_data : RunTexts → List ℕ
run_data r = shielded_text r.head.items ++ shielded_text r.trace.items ++ shielded_text r.turns.items ++ shielded_text r.report.items

abbrev pub runs_data : List RunTexts → List ℕ
runs_data [] = []
runs_data (r ∷ rs) = run_data r ++ runs_data rs

-- the source, the names of its processes, and the runs
abbrev pub page_data : (source names : List ℕ) → List RunTexts → List ℕ
page_data source names rs = shielded_text source ++ shielded_text names ++ runs_data rs

abbrev pub page_text : (source names : List ℕ) → List RunTexts → List ℕ
page_text source names rs = HEAD.now ++ page_data source names rs ++ FOOT.now

-- no byte of a text is a `<`, with which all markup begins
abbrev pub BeginsNoMarkup : List ℕ → Type 0
BeginsNoMarkup bytes = All (λ b. b ≢ 60) bytes

-- these texts between the beginning and the end of a page, and none of their bytes begins markup
abbrev pub IsPage : {A : Type 0} → (source names : List ℕ) → List RunTexts → Vec ℕ A → Type 0
IsPage source names rs bytes = (bytes.items ≡ page_text source names rs) × BeginsNoMarkup (page_data source names rs)

-- ---- private contracts alone cite what follows

abbrev pub IsPageData : {A : Type 0} → (source names : List ℕ) → List RunTexts → Vec ℕ A → Type 0
IsPageData source names rs bytes = bytes.items ≡ page_data source names rs
