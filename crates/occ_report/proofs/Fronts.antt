-- The names with which bytes begin.
use Rattle.std.proofs.Common.{◌≡◌, ◌∷◌, Bool, List, [], ap, false, length, refl, take, true, ℕ}
use Rattle.std.specs.Prelude.{if◌then◌else◌}
use Rattle.occ_text.specs.Spelling.{is_name_part}
use Rattle.occ_report.specs.Written.{name_in_front}

chosen : (b : Bool) (x : ℕ) (xs front : List ℕ) → take (length front) xs ≡ front
    → take (length (if b then x ∷ front else [])) (x ∷ xs) ≡ (if b then x ∷ front else [])
chosen true x xs front e = ap (λ l. x ∷ l) e
chosen false x xs front e = refl

-- as many bytes as the name has are the name
pub front_is : (bytes : List ℕ) → take (length (name_in_front bytes)) bytes ≡ name_in_front bytes
front_is [] = refl
front_is (b ∷ bs) = chosen (is_name_part b) b bs (name_in_front bs) (front_is bs)
