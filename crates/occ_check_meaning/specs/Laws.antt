-- What laws say of all that there is an unfolding of.
-- Manual: nothing; this is (own).
use Rattle.std.specs.Prelude.{List, Some, ℕ, ◌≡◌}
use Rattle.occ_tree_grammar.specs.Expressions.Trees.{Expression}
use Rattle.occ_tree_grammar.specs.Processes.Trees.{process, Item, Node}
use Rattle.occ_term.specs.Terms.{Term}
use Rattle.occ_term.specs.TermTyping.{Declared}
use Rattle.occ_check_meaning.specs.Expressions.{Typed, typed}
use Rattle.occ_check_meaning.specs.Numbers.{Numbers}
use Rattle.occ_check_meaning.specs.ProgramUnfolding.{ProgramUnfolding}
use Rattle.occ_check_meaning.specs.Scope.{Names}
use Rattle.occ_check_meaning.specs.Unfolding.{Procedures, Unfolding}
use Rattle.occ_check_meaning.specs.Having.{NamesHave}

-- so it is of each process: of the depth at which it stands, the numbers before it, its term, and the numbers then
abbrev pub EachProcess : (ℕ → Numbers → Term → Numbers → Type 0) → Type 0
EachProcess Says = (sc : Procedures) (depth : ℕ) (n m : Numbers) (p : Node process) (t : Term) → Unfolding sc depth n p t m → Says depth n t m

-- .. of each program: of its term, and the numbers then
abbrev pub EachProgram : (Term → Numbers → Type 0) → Type 0
EachProgram Says = (items : List Item) (t : Term) (m : Numbers) → ProgramUnfolding items t m → Says t m

-- .. of each expression: of what is declared, and of what it is under names that have that
abbrev pub EachExpression : (Declared → Typed → Type 0) → Type 0
EachExpression Says = (d : Declared) (ns : Names) (line : ℕ) (e : Expression) (t : Typed) → NamesHave d ns → typed ns line e ≡ Some t → Says d t
