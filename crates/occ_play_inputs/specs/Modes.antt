-- What the words of the command line say that a fault does.
-- Manual: invalid processes. The words are (own).
use Rattle.std.specs.Prelude.{List, Option, Some, codes, ℕ, ◌≡◌}
use Rattle.occ_term.specs.declared.fault.Errors.{Errors}
use Rattle.occ_term.specs.declared.fault.Errors.TheVariants.{Halt, Stop}

-- it stops its process where they say so, and else ends the run
abbrev pub IsMode : Option (List ℕ) → Errors → Type 0
IsMode given Stop = given ≡ Some (codes "stop")
IsMode given Halt = given ≡ Some (codes "stop") → ⊥
