-- What the words of the command line ask of all lists of choices.
-- Manual: nothing; the words are (own).
use Rattle.std.specs.Prelude.{Bool, List, None, Option, Some, codes, false, true, ℕ, ◌≡◌, ◌≢◌}
use Rattle.occ_explore.specs.declared.exploration.Asked.{Asked}
use Rattle.occ_explore.specs.declared.exploration.Asked.TheVariants.{Answers, Endings}

-- endings alone where they say so, and else answers; nothing where they don't ask
abbrev pub IsSearch : Option (List ℕ) → Option Asked → Type 0
IsSearch given None = given ≡ None
IsSearch given (Some Endings) = given ≡ Some (codes "endings")
IsSearch given (Some Answers) = (given ≢ None) × (given ≢ Some (codes "endings"))

-- whether all states are to be searched, and not only those that are enough
abbrev pub IsFull : Option (List ℕ) → Bool → Type 0
IsFull given true = given ≡ Some (codes "full")
IsFull given false = given ≢ Some (codes "full")
