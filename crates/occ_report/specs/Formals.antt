-- What the formals by reference of PROCs stand for, by the words of the lines of PROCs and of calls.
-- Manual: formals and actuals, and the scope of a name.
use Rattle.std.specs.Prelude.{Bool, List, None, Option, Some, [], bytes_eq, codes, false, if◌then◌else◌, length, nat_abs, nat_eq, nat_lt, not, option_map, slice_get, true, Vec, ℕ, ◌&&◌, ◌++◌, ◌-◌, ◌||◌, ◌∷◌}
use Rattle.std.specs.Borrow.{Bor}
use Rattle.std.specs.Fmt.{decimal}
use Rattle.std.specs.List.{list_any}
use Rattle.std.specs.Option.{option_map_or}
use Rattle.occ_text.specs.Spelling.{is_name_part}
use Rattle.occ_text.specs.Words.{LogicalLine, Word, key, lit, logical_line, mark, name, number, words}
use Rattle.occ_text.specs.declared.token.Key.TheVariants as keys
use Rattle.occ_text.specs.declared.token.Sym.TheVariants as signs
use Rattle.occ_text.specs.declared.token.Token.{Token}
use Rattle.occ_report.specs.Calls.{call_at, has_line}
use Rattle.occ_report.specs.Written.{name_in_front}
use Rattle.occ_report.specs.declared.calls.Call.{Call}

-- the words of the line of this number; none where there is no such line
abbrev pub line_words : List LogicalLine → ℕ → List Word
line_words [] n = []
line_words (logical_line m level ws ∷ lines) n = if nat_eq m n then ws else line_words lines n

-- ---- a formal and its actual

abbrev pub is_comma : Word → Bool
is_comma (mark signs.Comma) = true
is_comma w = false

-- what stands behind the first comma
abbrev pub behind_comma : List Word → List Word
behind_comma [] = []
behind_comma (w ∷ ws) = if is_comma w then ws else behind_comma ws

-- whether an element of a list ends before these words; the bracket or the colon behind all elements is the last word of the line
abbrev pub ends_element : List Word → Bool
ends_element (mark signs.Comma ∷ ws) = true
ends_element (mark signs.CloseParen ∷ []) = true
ends_element (mark signs.Colon ∷ []) = true
ends_element ws = false

-- whether a word is this name, and an element ends with it, before these words
abbrev pub ends_with : (own : List ℕ) → Word → List Word → Bool
ends_with own (name x) ws = bytes_eq x own && ends_element ws
ends_with own w ws = false

abbrev pub begins_with_name : List Word → Bool
begins_with_name (name x ∷ ws) = true
begins_with_name ws = false

-- whether formals are by value behind a word, before these: behind VAL, and then each that is a name alone
abbrev pub is_by_value : (before : Bool) → Word → List Word → Bool
is_by_value before (key keys.Val) ws = true
is_by_value before (mark signs.Comma) ws = before && begins_with_name ws
is_by_value before w ws = before

abbrev pub next_actuals : Word → List Word → List Word
next_actuals w actuals = if is_comma w then behind_comma actuals else actuals

-- the words from the actual on of the formal by reference of this name
abbrev pub actual_for : (own : List ℕ) → (value : Bool) → (formals actuals : List Word) → Option (List Word)
actual_for own value [] actuals = None
actual_for own value (w ∷ ws) actuals =
    if ends_with own w ws && not value then Some actuals else actual_for own (is_by_value value w ws) ws (next_actuals w actuals)

abbrev pub begins_with_close : List Word → Bool
begins_with_close (mark signs.CloseBracket ∷ ws) = true
begins_with_close ws = false

abbrev pub number_bytes : ℕ → List Word → Option (List ℕ)
number_bytes n ws = if begins_with_close ws then Some (decimal n) else None

-- the bytes of a word, before these, of subscripts that are written as numbers
abbrev pub subscript_bytes : Word → List Word → Option (List ℕ)
subscript_bytes (mark signs.OpenBracket) ws = Some (codes "[")
subscript_bytes (mark signs.CloseBracket) ws = Some (codes "]")
subscript_bytes (lit (number n)) ws = number_bytes (nat_abs n) ws
subscript_bytes w ws = None

abbrev pub with_bytes : Option (List ℕ) → (text : List ℕ) → (List ℕ → List ℕ) → List ℕ
with_bytes None text more = text
with_bytes (Some bytes) text more = more (text ++ bytes)

-- a text with the subscripts behind it, up to one that is not written as a number: there it ends with the bracket
abbrev pub subscripts_text : (text : List ℕ) → List Word → List ℕ
subscripts_text text [] = text
subscripts_text text (w ∷ ws) = with_bytes (subscript_bytes w ws) text (λ more. subscripts_text more ws)

abbrev pub actual_text : List Word → List ℕ
actual_text (name x ∷ ws) = subscripts_text x ws
actual_text ws = []

abbrev pub call_actuals : List Word → List Word
call_actuals (proc ∷ paren ∷ ws) = ws
call_actuals ws = []

-- the actual of the formal by reference of this name of a call
abbrev pub actual_at : List LogicalLine → Call → (own : List ℕ) → Option (List ℕ)
actual_at lines c own = option_map actual_text (actual_for own false (line_words lines c.first) (call_actuals (line_words lines c.line)))

-- whether it isn't known for what a text stands: for which component of an array, or for anything
abbrev pub is_unsure : List ℕ → Bool
is_unsure text = option_map_or (λ b. nat_eq b 91) (slice_get text (length text - 1)) true

-- ---- names that are declared again

-- a declaration, the head of a PROC or a replicator has such a word, and no other line
abbrev pub is_declaring : Word → Bool
is_declaring (mark signs.Colon) = true
is_declaring (key keys.Proc) = true
is_declaring (key keys.For) = true
is_declaring w = false

-- whether these words may stand there behind a variable, a value, an index or a formal that is declared
abbrev pub follow_declared : List Word → Bool
follow_declared (key keys.Is ∷ ws) = true
follow_declared (mark signs.Equal ∷ ws) = true
follow_declared ws = ends_element ws

abbrev pub is_declared : (own : List ℕ) → Word → List Word → Bool
is_declared own (name x) ws = bytes_eq x own && follow_declared ws
is_declared own w ws = false

abbrev pub declares_name : (own : List ℕ) → List Word → Bool
declares_name own [] = false
declares_name own (w ∷ ws) = is_declared own w ws || declares_name own ws

-- whether one of the lines between these two may declare a name
abbrev pub declares_between : (first last : ℕ) → (own : List ℕ) → List LogicalLine → Bool
declares_between first last own [] = false
declares_between first last own (logical_line n level ws ∷ lines) =
    (nat_lt first n && nat_lt n last && list_any is_declaring ws && declares_name own ws) || declares_between first last own lines

-- ---- what a name stands for

-- for what a formal by reference of a call stands in this line of its PROC: for anything, where the PROC declares the name again
abbrev pub meant_by : List LogicalLine → Call → (line : ℕ) → (own : List ℕ) → Option (List ℕ)
meant_by lines c line own =
    if has_line line c then option_map (λ actual. if declares_between c.first c.last own lines then [] else actual) (actual_at lines c own) else None

abbrev pub behind_name : List ℕ → List ℕ
behind_name [] = []
behind_name (b ∷ bs) = if is_name_part b then behind_name bs else b ∷ bs

-- a text with an actual for the name in its front
abbrev pub with_actual : (actual text : List ℕ) → List ℕ
with_actual actual text = if is_unsure actual then actual else actual ++ behind_name text

abbrev pub at_call : Call → Option (List ℕ) → ℕ × List ℕ → ℕ × List ℕ
at_call c None at = at
at_call c (Some actual) at = (c.line, with_actual actual at.1)

-- a text, and the line in which it stands, as outside of the PROC of a call: there an actual stands for its formal
abbrev pub outside : List LogicalLine → Option Call → ℕ × List ℕ → ℕ × List ℕ
outside lines None at = at
outside lines (Some c) at = at_call c (meant_by lines c at.0 (name_in_front at.1)) at

-- what a text stands for in a line to which these calls led, the innermost one first
abbrev pub stands_for : List LogicalLine → List Call → (numbers : List ℕ) → ℕ × List ℕ → List ℕ
stands_for lines calls [] at = at.1
stands_for lines calls (n ∷ ns) at = stands_for lines calls ns (outside lines (call_at calls n) at)

-- ---- of what code has; private contracts alone cite it

abbrev pub text_found : {A : Type 0} → Option (Vec ℕ A) → Option (List ℕ)
text_found found = option_map (λ v. v.items) found

abbrev pub lent_words : Option (Bor (List Token)) → Option (List Word)
lent_words found = option_map (λ tokens. words tokens.now) found
