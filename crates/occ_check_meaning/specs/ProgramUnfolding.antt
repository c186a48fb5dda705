-- The unfoldings of a whole program, by cases.
-- Manual: scope; procedures. The main process, and that named values at the top stand before it: (own).
use Rattle.std.specs.Prelude.{List, Some, [], ℕ, ◌++◌, ◌∷◌, ◌≡◌}
use Rattle.occ_tree_grammar.specs.Processes.Trees.{Item}
use Rattle.occ_term.specs.Terms.{Term}
use Rattle.occ_term.specs.UnfoldedProgram as Unfolded
use Rattle.occ_check_meaning.specs.Scope.{Name, within}
use Rattle.occ_check_meaning.specs.Numbers.{Numbers, at_start}
use Rattle.occ_check_meaning.specs.Actions.{headed, opening}
use Rattle.occ_check_meaning.specs.Performing.{Entered, entered}
use Rattle.occ_check_meaning.specs.Unfolding.{Procedure, Procedures, DeclaresItem, Unfolding}
use Rattle.occ_check_meaning.specs.Programs.{Main, main_of, main_names, channels_from, program_unfolded}

-- each item in the scope of those before it
pub data DeclareItems : Procedures → (depth : ℕ) → Numbers → List Item → Entered Procedure → Type 0 where
  no_item : {sc : Procedures} {depth : ℕ} {n : Numbers} → DeclareItems sc depth n [] (entered sc [] n)
  one_item : {sc : Procedures} {depth : ℕ} {n : Numbers} {i : Item} {items : List Item} {a b : Entered Procedure}
      → DeclaresItem sc depth n i a → DeclareItems a.scope depth a.numbers items b → DeclareItems sc depth n (i ∷ items) (entered b.scope (a.heads ++ b.heads) b.numbers)

-- The last PROC's body under its formals, behind the Locals of the named values before it. What stands behind it has no part in it.
pub data ProgramUnfolding : List Item → Term → Numbers → Type 0 where
  program : {items : List Item} {main : Main} {xs : List Name} {d : Entered Procedure} {deep : ℕ} {m l : Numbers} {t : Term}
      → main_of items ≡ Some main → main_names main.formals ≡ Some xs → DeclareItems [] 1 at_start main.before d
      → opening d.heads 0 d.numbers ≡ Some (deep, m) → Unfolding (within (channels_from 0 xs) d.scope) deep m main.body t l
      → ProgramUnfolding items (headed d.heads t) l

-- the same as a program with the cells and channels that it declares
abbrev pub UnfoldsTo : List Item → Unfolded.UnfoldedProgram → Type 0
UnfoldsTo items u = (m : Numbers) × ProgramUnfolding items (Unfolded.meaning u) m × (m.cells ≡ u.cells) × (m.channels ≡ u.channels)

-- what the recursion answers of a program, as a relation
abbrev pub ProgramAnswered : List Item → Term → Numbers → Type 0
ProgramAnswered items t m = program_unfolded items ≡ Some (t, m)

-- what the one relation has of a program, the other one has
abbrev pub ProgramImplies : (One Other : List Item → Term → Numbers → Type 0) → Type 0
ProgramImplies One Other = (items : List Item) (t : Term) (m : Numbers) → One items t m → Other items t m
