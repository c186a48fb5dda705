-- The lines at the head of processes, of their parts and of declarations, with at most 64 brackets open at one place.
-- Manual: the syntax summary. The limit of brackets: (own).
use Rattle.std.specs.Prelude.{List, Result, Some, ℕ}
use Rattle.std.specs.Borrow.{Bor}
use Rattle.occ_text.specs.declared.token.Line.{Line}
use Rattle.occ_text.specs.Words.{LogicalLine, logical_lines}
use Rattle.occ_tree_grammar.specs.declared.fault.ParseFault.{ParseFault}
use Rattle.occ_tree_grammar.specs.Limits.{brackets}
use Rattle.occ_tree_grammar.specs.Many.{◌>>=◌, Reader}
use Rattle.occ_tree_grammar.specs.Expressions.Reading.{Gives}
use Rattle.occ_tree_grammar.specs.Lines.Heads.{DeclHead}
use Rattle.occ_tree_grammar.specs.Lines.HeadReading.{decl_head_at}
use Rattle.occ_tree_grammar.specs.Processes.Trees.{Kind, Head}
use Rattle.occ_tree_grammar.specs.Processes.Reading.{line_at, head_at}

-- the number of the line at this level, and what it says
abbrev pub line_with : (k : Kind) → ℕ → Reader LogicalLine (ℕ × Head k)
line_with k level lines = do
  l ← line_at level lines
  h ← head_at k brackets l.0.1
  Some ((l.0.0, h), l.1)

abbrev pub decl_line_with : ℕ → Reader LogicalLine (ℕ × DeclHead)
decl_line_with level lines = do
  l ← line_at level lines
  h ← decl_head_at brackets l.0.1
  Some ((l.0.0, h), l.1)

-- the answer is what read finds at the front of the lines: a number, what the line says, seen by view, and the lines behind it
abbrev pub ReadsHeadLine : {X Y : Type 0} → (X → Y) → Result (ℕ × X × Bor (List Line)) ParseFault → Reader LogicalLine (ℕ × Y) → List Line → Type 0
ReadsHeadLine view result read lines = Gives (λ x. ((x.0, view x.1), logical_lines x.2.now)) result (read (logical_lines lines))
