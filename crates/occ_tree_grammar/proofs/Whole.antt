-- Whole texts: from the reader to the written form.
use Rattle.std.proofs.Common.{◌≡◌, ◌+◌, List, Some, Result, Ok, Err, sym, ap, ◌∙◌, arith}
use Rattle.std.specs.Prelude.{IfOk}
use Rattle.occ_text.specs.Words.{LogicalLine}
use Rattle.occ_tree_grammar.specs.Limits.{most_levels}
use Rattle.occ_tree_grammar.specs.declared.fault.ParseFault.{ParseFault}
use Rattle.occ_tree_grammar.specs.declared.tree.process.Program.{Program}
use Rattle.occ_tree_grammar.specs.Expressions.Reading.{Gives}
use Rattle.occ_tree_grammar.specs.Processes.Trees.{Item}
use Rattle.occ_tree_grammar.specs.Processes.Views.{program_of}
use Rattle.occ_tree_grammar.specs.Processes.Shown.{show_program}
use Rattle.occ_tree_grammar.specs.Processes.Fits.{InBounds}
use Rattle.occ_tree_grammar.specs.Processes.Reading.{program_at}
use Rattle.occ_tree_grammar.proofs.ProcessSound.{program_sound}
use Rattle.occ_tree_grammar.proofs.ProcessAgain.{program_again, one_program}

pub is_found : (lines : List LogicalLine) (r : Result Program ParseFault) → Gives program_of r (program_at (most_levels + 1) most_levels lines) → IfOk r (λ p. (show_program (program_of p) ≡ lines) × InBounds (program_of p))
is_found lines (Ok p) given = let q = program_sound (most_levels + 1) most_levels lines (program_of p) given in (sym q.0, q.1)
is_found lines (Err e) given = tt

pub is_read : (lines : List LogicalLine) (p : List Item) → InBounds p → show_program p ≡ lines → program_at (most_levels + 1) most_levels lines ≡ Some p
is_read lines p f h = ap (program_at (most_levels + 1) most_levels) (sym h) ∙ program_again (most_levels + 1) most_levels p (omega arith) f

-- Two trees with one written form are one.
pub one_tree : (p q : List Item) → InBounds p → InBounds q → show_program p ≡ show_program q → p ≡ q
one_tree p q f g h = one_program (most_levels + 1) most_levels (omega arith) p q f g h
