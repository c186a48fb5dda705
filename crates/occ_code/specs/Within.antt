-- Terms that use no cell past those that a program may have, and what is declared under numbers that the machine has.
-- Manual: nothing; how many cells there may be is (own).
use Rattle.std.specs.Prelude.{IsTrue, List, Some, [], ℕ, ⊤, ◌<◌, ◌∷◌, ◌≡◌}
use Rattle.occ_term.specs.Terms.{Term}
use Rattle.occ_term.specs.Uses.{Numbers, uses_of}
use Rattle.occ_term.specs.UnfoldedProgram.{most_cells}
use Rattle.occ_term.specs.TermTyping.{Declared}
use Rattle.occ_term.specs.declared.primitive.Primitive.{Primitive}
use Rattle.occ_term.specs.declared.protocol.Protocol.{Protocol}
use Rattle.occ_term.specs.Processes.{Numbered}
use Rattle.occ_machine.specs.SameStop.{used_by}
use Rattle.occ_machine.specs.Machine.{is_number}

-- each number of the set is that of a cell
abbrev pub AreWithin : Numbers → Type 0
AreWithin set = (c : ℕ) → IsTrue (set c) → c < most_cells

abbrev pub KeepsWithin : Term → Type 0
KeepsWithin t = AreWithin (used_by (uses_of t))

abbrev pub AllWithin : List Numbered → Type 0
AllWithin [] = ⊤
AllWithin (p ∷ ps) = KeepsWithin p.term × AllWithin ps

-- each cell and each channel that is declared has such a number
pub record AreNumbered (d : Declared) : Type 0 where
  pub cells : (c : ℕ) (t : Primitive) → d.types c ≡ Some t → IsTrue (is_number c)
  pub channels : (c : ℕ) (p : Protocol) → d.protocols c ≡ Some p → IsTrue (is_number c)
