-- Faults and the lines that they carry.
-- Manual: nothing; the faults are (own).
use Rattle.std.specs.Prelude.{◌≡◌, ◌≤◌, ℕ, List, length, Option, Some, None, IfSome}
use Rattle.std.specs.Str.Lines.{lines}
use Rattle.occ_text.specs.declared.fault.TextFault.{TextFault}
use Rattle.occ_text.specs.declared.fault.TextFault.TheVariants as faults
use Rattle.occ_text.specs.declared.token.Line.{Line}

-- the line that a fault carries, if any
abbrev pub line_of : TextFault → Option ℕ
line_of faults.TooLong = None
line_of (faults.BadByte n) = Some n
line_of (faults.OddIndent n) = Some n
line_of (faults.BadLiteral n) = Some n
line_of (faults.BadEscape n) = Some n
line_of (faults.OpenString n) = Some n
line_of (faults.BadBreak n) = Some n
line_of faults.Memory = None

-- this line, or none
abbrev pub Names : ℕ → TextFault → Type 0
Names n fault = IfSome (line_of fault) (λ m. m ≡ n)

-- one of the first so many physical lines, or none
abbrev pub NamesUpTo : ℕ → TextFault → Type 0
NamesUpTo count fault = IfSome (line_of fault) (λ m. (1 ≤ m) × (m ≤ count))

-- one of the physical lines of the text, or none
abbrev pub NamesLineOf : List ℕ → TextFault → Type 0
NamesLineOf text fault = NamesUpTo (length (lines text)) fault

-- a line that begins in one of the first so many physical lines, or none
abbrev pub BeginsUpTo : ℕ → Option Line → Type 0
BeginsUpTo count line = IfSome line (λ l. (1 ≤ l.number) × (l.number ≤ count))
