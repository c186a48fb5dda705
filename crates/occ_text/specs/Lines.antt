-- The logical lines of a text, as a relation. Bytes are numbers: 32 is a space, 45 is `-`.
-- Manual: continuation lines, comments and indentation. What is dropped, and the limits: (own).
use Rattle.std.specs.Prelude.{◌≡◌, ◌≤◌, ℕ, ◌-◌, ◌*◌, Bool, true, false, ◌&&◌, ◌==◌, IsTrue, IsFalse, List, [], ◌∷◌, ◌++◌, length, slice_get, Result, Ok, Err}
use Rattle.std.specs.List.{enumerate_from, prefix_len}
use Rattle.std.specs.Option.{option_map_or}
use Rattle.std.specs.Str.Lines.{lines}
use Rattle.occ_text.specs.declared.token.Key.TheVariants as k
use Rattle.occ_text.specs.declared.token.Sym.TheVariants as s
use Rattle.occ_text.specs.declared.fault.TextFault.{TextFault}
use Rattle.occ_text.specs.declared.fault.TextFault.TheVariants as faults
use Rattle.occ_text.specs.Words.{Word, key, mark, LogicalLine, logical_line}
use Rattle.occ_text.specs.Spelling.{Spells}

-- a physical line with its number
abbrev pub Physical : Type 0
Physical = ℕ × List ℕ

-- `--`
abbrev pub begins_comment : List ℕ → Bool
begins_comment (a ∷ b ∷ bytes) = a == 45 && b == 45
begins_comment _ = false

-- the words of a physical line, which spaces may part, and a comment may end
pub data Reads : List ℕ → List Word → Type 0 where
  ended : Reads [] []
  comment : {bytes : List ℕ} → Reads (45 ∷ 45 ∷ bytes) []
  space : {bytes : List ℕ} {ws : List Word} → Reads bytes ws → Reads (32 ∷ bytes) ws
  word : {bytes rest : List ℕ} {w : Word} {ws : List Word} → IsFalse (begins_comment bytes) → Spells bytes w rest → Reads rest ws → Reads bytes (w ∷ ws)

-- after such a word at its end a line goes on: a two-sided operator, AND, OR, `,` `;` `:=` IS or FOR
unfoldable pub leads_on : Word → Bool
leads_on (key k.After) = true
leads_on (key k.And) = true
leads_on (key k.BitAnd) = true
leads_on (key k.BitOr) = true
leads_on (key k.For) = true
leads_on (key k.Is) = true
leads_on (key k.Minus) = true
leads_on (key k.Or) = true
leads_on (key k.Plus) = true
leads_on (key k.Rem) = true
leads_on (key k.Times) = true
leads_on (mark s.Assign) = true
leads_on (mark s.Semicolon) = true
leads_on (mark s.Comma) = true
leads_on (mark s.Equal) = true
leads_on (mark s.NotEqual) = true
leads_on (mark s.LessEqual) = true
leads_on (mark s.GreaterEqual) = true
leads_on (mark s.ShiftLeft) = true
leads_on (mark s.ShiftRight) = true
leads_on (mark s.BitXor) = true
leads_on (mark s.Less) = true
leads_on (mark s.Greater) = true
leads_on (mark s.Plus) = true
leads_on (mark s.Minus) = true
leads_on (mark s.Times) = true
leads_on (mark s.BitAnd) = true
leads_on (mark s.Divide) = true
leads_on (mark s.BitOr) = true
leads_on (mark s.Remainder) = true
leads_on _ = false

-- the last word is such a word
abbrev pub goes_on : List Word → Bool
goes_on ws = option_map_or leads_on (slice_get ws (length ws - 1)) false

-- how many spaces stand before a line
abbrev pub indent : List ℕ → ℕ
indent line = prefix_len (λ b. b == 32) line

-- The words `ws` of a logical line of this level go on in these lines, where their last word says so: all its
-- words, and the lines after it. Lines with no words are passed over.
pub data Continues (level : ℕ) : List Word → List Physical → List Word → List Physical → Type 0 where
  complete : {ws : List Word} {rest : List Physical} → IsFalse (goes_on ws) → Continues level ws rest ws rest
  skipped : {n : ℕ} {line : List ℕ} {ws all : List Word} {more rest : List Physical} → IsTrue (goes_on ws) → Reads line [] → Continues level ws more all rest → Continues level ws ((n, line) ∷ more) all rest
  joined : {n : ℕ} {line : List ℕ} {w : Word} {ws vs all : List Word} {more rest : List Physical} → IsTrue (goes_on ws) → Reads line (w ∷ vs) → 2 * level ≤ indent line → Continues level (ws ++ w ∷ vs) more all rest → Continues level ws ((n, line) ∷ more) all rest

-- The logical lines of physical lines: each has the number of its first one, and half the spaces before that.
pub data Logical : List Physical → List LogicalLine → Type 0 where
  none : Logical [] []
  dropped : {n : ℕ} {line : List ℕ} {more : List Physical} {logical_lines : List LogicalLine} → Reads line [] → Logical more logical_lines → Logical ((n, line) ∷ more) logical_lines
  begun : {n level : ℕ} {line : List ℕ} {w : Word} {ws all : List Word} {more rest : List Physical} {logical_lines : List LogicalLine} → Reads line (w ∷ ws) → indent line ≡ 2 * level → Continues level (w ∷ ws) more all rest → Logical rest logical_lines → Logical ((n, line) ∷ more) (logical_line n level all ∷ logical_lines)

-- The logical lines of a text, whose physical lines, from 1, are cut by `lines`: each ends with LF or CR LF, or with the
-- text. A text of more than 1,048,576 bytes has none.
abbrev pub LinesOf : List ℕ → List LogicalLine → Type 0
LinesOf text logical_lines = (length text ≤ 1048576) × Logical (enumerate_from 1 (lines text)) logical_lines

-- the answer is so, unless memory ran out
abbrev pub UnlessMemory : {X : Type 0} → Result X TextFault → (X → Type 0) → Type 0
UnlessMemory (Ok x) P = P x
UnlessMemory (Err faults.Memory) P = Unit {0}
UnlessMemory (Err _) P = ⊥
