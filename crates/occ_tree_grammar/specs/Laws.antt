-- Laws of reading and of the written form: fewer than b brackets are open at one place, and there are at most n levels of lines.
-- Manual: nothing; this is (own).
use Rattle.std.specs.Prelude.{List, Some, ℕ, ◌++◌, ◌<◌, ◌≡◌}
use Rattle.occ_text.specs.Words.{LogicalLine, Word}
use Rattle.occ_tree_grammar.specs.Expressions.Trees.{Expression}
use Rattle.occ_tree_grammar.specs.Expressions.Shown.{Narrow, depth, show_expression}
use Rattle.occ_tree_grammar.specs.Expressions.Reading.{expression_at}
use Rattle.occ_tree_grammar.specs.Expressions.Follow.{Stops}
use Rattle.occ_tree_grammar.specs.Processes.Trees.{Item}
use Rattle.occ_tree_grammar.specs.Processes.Shown.{show_program}
use Rattle.occ_tree_grammar.specs.Processes.Fits.{FitsProgram}
use Rattle.occ_tree_grammar.specs.Processes.Reading.{program_at}

-- trees of which this holds have one written form only where they are equal
abbrev pub HaveOwnForms : (List Item → Type 0) → Type 0
HaveOwnForms Holds = (p q : List Item) → Holds p → Holds q → show_program p ≡ show_program q → p ≡ q

-- a text that is read is shown so, and keeps to the bounds
abbrev pub TextsReadAsShown : ℕ → ℕ → Type 0
TextsReadAsShown b n = (lines : List LogicalLine) (p : List Item) → program_at b n lines ≡ Some p → (lines ≡ show_program p) × FitsProgram b n p

-- a text that keeps to the bounds and is shown is read again
abbrev pub TextsReadAgain : ℕ → ℕ → Type 0
TextsReadAgain b n = (p : List Item) → 0 < b → FitsProgram b n p → program_at b n (show_program p) ≡ Some p

-- an expression that is read is shown so before what follows it, with fewer than n brackets open and no name with too many subscripts
abbrev pub ExpressionsReadAsShown : ℕ → Type 0
ExpressionsReadAsShown n = (ws : List Word) (x : Expression × List Word) → expression_at n ws ≡ Some x → (ws ≡ show_expression x.0 ++ x.1) × (depth x.0 < n) × Narrow x.0

-- an expression that is shown is read again, where what follows doesn't go on with it
abbrev pub IsReadAgain : Expression → ℕ → Type 0
IsReadAgain e n = (ws : List Word) → depth e < n → Narrow e → Stops ws → expression_at n (show_expression e ++ ws) ≡ Some (e, ws)
