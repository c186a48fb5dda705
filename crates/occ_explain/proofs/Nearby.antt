-- Logical lines that begin elsewhere.
use Rattle.std.proofs.Common.{All, List, ℕ, ◌<◌, ◌∷◌, ◌≤◌, ◌⊎◌}
use Rattle.std.proofs.lemmas.List.Elements.{All-cons}
use Rattle.occ_explain.specs.Places.{number_of_line}
use Rattle.occ_text.specs.Words.{LogicalLine}

pub one_elsewhere : (from to : ℕ) (l : LogicalLine) (ls : List LogicalLine) → (number_of_line l ≤ from) ⊎ (to < number_of_line l)
    → All (λ x. (number_of_line x ≤ from) ⊎ (to < number_of_line x)) ls → All (λ x. (number_of_line x ≤ from) ⊎ (to < number_of_line x)) (l ∷ ls)
one_elsewhere from to l ls = All-cons (λ x. (number_of_line x ≤ from) ⊎ (to < number_of_line x)) l ls
