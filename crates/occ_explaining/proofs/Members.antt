-- The members of an object, of equal parts.
use Rattle.std.proofs.Common.{◌≡◌, ◌∙◌, ◌+◌, ◌∷◌, List, [], ap, ℕ}
use Rattle.std.specs.Prelude.{codes}
use Rattle.occ_shown.specs.Objects.{Said, number, text, exactly}

-- those of a refusal
abbrev pub refusal_members : (file : List ℕ) → (line column end n : ℕ) → (name wrong hint : List ℕ) → List (List ℕ × Said)
refusal_members file line column end n name wrong hint =
    (codes "file", exactly file) ∷ (codes "line", number line) ∷ (codes "column", number column) ∷ (codes "end", number end) ∷ (codes "number", number n) ∷ (codes "name", text name)
    ∷ (codes "text", text wrong) ∷ (codes "hint", text hint) ∷ []

pub refusal_same : (file : List ℕ) (column : ℕ) {line a end b n c : ℕ} {name d wrong e hint f : List ℕ} → line ≡ a → end ≡ b → n ≡ c → name ≡ d → wrong ≡ e → hint ≡ f
    → refusal_members file line column end n name wrong hint ≡ refusal_members file a column b c d e f
refusal_same file column {line} {a} {end} {b} {n} {c} {name} {d} {wrong} {e} {hint} {f} lines ends numbers names wrongs hints =
    ap (λ x. refusal_members file x column end n name wrong hint) lines ∙ ap (λ x. refusal_members file a column x n name wrong hint) ends
    ∙ ap (λ x. refusal_members file a column b x name wrong hint) numbers ∙ ap (λ x. refusal_members file a column b c x wrong hint) names
    ∙ ap (λ x. refusal_members file a column b c d x hint) wrongs ∙ ap (λ x. refusal_members file a column b c d e x) hints

-- those of a PROC that no call reaches
abbrev pub unchecked_members : (file : List ℕ) → (line column : ℕ) → (name : List ℕ) → List (List ℕ × Said)
unchecked_members file line column name =
    (codes "file", exactly file) ∷ (codes "line", number line) ∷ (codes "column", number column) ∷ (codes "end", number (column + 4)) ∷ (codes "name", text name)
    ∷ (codes "text", text (codes "no call reaches it")) ∷ []

pub unchecked_same : {file a : List ℕ} {line b column c : ℕ} {name d : List ℕ} → file ≡ a → line ≡ b → column ≡ c → name ≡ d → unchecked_members file line column name ≡ unchecked_members a b c d
unchecked_same {file} {a} {line} {b} {column} {c} {name} {d} files lines columns names =
    ap (λ x. unchecked_members x line column name) files ∙ ap (λ x. unchecked_members a x column name) lines ∙ ap (λ x. unchecked_members a b x name) columns
    ∙ ap (λ x. unchecked_members a b c x) names
