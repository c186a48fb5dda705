-- What the tree of a text is.
-- Manual: the syntax summary. The limits of levels and brackets: (own).
use Rattle.std.specs.Prelude.{List, Result, Some, ◌≡◌}
use Rattle.occ_text.specs.declared.token.Source.{Source}
use Rattle.occ_text.specs.Words.{logical_lines}
use Rattle.occ_tree_grammar.specs.declared.fault.ParseFault.{ParseFault}
use Rattle.occ_tree_grammar.specs.declared.tree.process.Program.{Program}
use Rattle.occ_tree_grammar.specs.Expressions.Reading.{Gives}
use Rattle.occ_tree_grammar.specs.Processes.Trees.{Item}
use Rattle.occ_tree_grammar.specs.Processes.Views.{program_of}
use Rattle.occ_tree_grammar.specs.Processes.Shown.{show_program}
use Rattle.occ_tree_grammar.specs.Processes.Fits.{InBounds}

-- the written form of the program's tree is the lines of the text, and it keeps to the bounds
abbrev pub IsTreeIn : Source → Program → Type 0
IsTreeIn source p = (show_program (program_of p) ≡ logical_lines source.lines.items) × InBounds (program_of p)

-- whatever tree keeps to the bounds and has these lines is the answer, unless memory ran out
abbrev pub GivesTreeIn : Source → Result Program ParseFault → Type 0
GivesTreeIn source result = (p : List Item) → InBounds p → show_program p ≡ logical_lines source.lines.items → Gives program_of result (Some p)
