-- The source that a text is read as.
-- Manual: nothing; this is (own).
use Rattle.std.specs.Prelude.{List, Result, ℕ, ◌≡◌}
use Rattle.occ_text.specs.declared.fault.TextFault.{TextFault}
use Rattle.occ_text.specs.declared.token.Source.{Source}
use Rattle.occ_text.specs.Lines.{LinesOf, UnlessMemory}
use Rattle.occ_text.specs.Words.{LogicalLine, logical_lines}

-- unless memory ran out, the source is that with these lines, where the text has them
abbrev pub HasOnlyLinesOf : List ℕ → Result Source TextFault → Type 0
HasOnlyLinesOf text source = (rs : List LogicalLine) → LinesOf text rs → UnlessMemory source (λ s. logical_lines s.lines.items ≡ rs)
