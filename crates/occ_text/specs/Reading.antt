-- Reading from left to right, as functions on lists that private clauses cite. Each answers what stands at the front,
-- and what follows it; the laws in proofs/ join them to the relations of Spelling and Lines.
-- Manual: nothing; this is (own).
use Rattle.std.specs.Prelude.{◌≡◌, ℕ, zero, suc, ◌+◌, ◌-◌, ◌*◌, ◌/◌, ◌%◌, Bool, ◌&&◌, ◌==◌, nat_le, nat_lt, bytes_eq, if◌then◌else◌, List, Vec, [], ◌∷◌, ◌++◌, length, map, drop, Option, Some, None, Result, Ok, Err, option_map, pos}
use Rattle.std.specs.Char.{is_ascii_alphabetic, is_ascii_digit, is_ascii_hexdigit}
use Rattle.std.specs.Int.{w32, cast_signed}
use Rattle.std.specs.List.{enumerate_from, prefix_len, take_while}
use Rattle.std.specs.Borrow.{Bor}
use Rattle.std.specs.Str.Lines.{lines}
use Rattle.occ_text.specs.declared.class.Class.{Class}
use Rattle.occ_text.specs.declared.class.Class.TheVariants as classes
use Rattle.occ_text.specs.declared.fault.TextFault.{TextFault}
use Rattle.occ_text.specs.declared.fault.TextFault.TheVariants as faults
use Rattle.occ_text.specs.declared.keyword.TheConstants.{KEYS_A, KEYS_B, KEYS_C, KEYS_E, KEYS_F, KEYS_I, KEYS_M, KEYS_N, KEYS_O, KEYS_P, KEYS_R, KEYS_S, KEYS_T, KEYS_V, KEYS_W}
use Rattle.occ_text.specs.declared.token.Key.{Key}
use Rattle.occ_text.specs.declared.token.Line.{Line}
use Rattle.occ_text.specs.declared.token.Sym.{Sym}
use Rattle.occ_text.specs.declared.token.Sym.TheVariants as s
use Rattle.occ_text.specs.Words.{Word, key, name, lit, mark, number, byte, text, LogicalLine, logical_line, logical_line_of, logical_lines}
use Rattle.occ_text.specs.Spelling.{is_name_part, is_plain, digit_of, value, escape_of}
use Rattle.occ_text.specs.Lines.{Physical, begins_comment, goes_on, indent}

infixl 10 ◌>>=◌
abbrev pub ◌>>=◌ : {A B : Type 0} → Option A → (A → Option B) → Option B
(Some x) >>= f = f x
None >>= f = None

-- what a function answered, seen by view, is what reading gives, unless memory ran out
abbrev pub Fails : {Y : Type 0} → TextFault → Option Y → Type 0
Fails faults.Memory read = Unit {0}
Fails _ read = read ≡ None

abbrev pub Gives : {X Y : Type 0} → (X → Y) → Result X TextFault → Option Y → Type 0
Gives view (Ok x) read = read ≡ Some (view x)
Gives view (Err e) read = Fails e read

abbrev pub Reader : Type 0 → Type 0
Reader A = List ℕ → Option (A × List ℕ)

-- the answer, seen by view, is what read finds at the front of the bytes, with the bytes behind it; a fault says that it finds
-- nothing there, or that memory ran out
abbrev pub ReadsBytes : {X Y : Type 0} → (X → Y) → Result (X × Bor (List ℕ)) TextFault → Reader Y → List ℕ → Type 0
ReadsBytes view result read bytes = Gives (λ x. (view x.0, x.1.now)) result (read bytes)

abbrev pub guard : {A : Type 0} → Bool → A → Option A
guard b x = if b then Some x else None

-- ---- runs

abbrev pub belongs : Class → ℕ → Bool
belongs classes.Space b = b == 32
belongs classes.NamePart b = is_name_part b
belongs classes.Digit b = is_ascii_digit b
belongs classes.HexDigit b = is_ascii_hexdigit b

abbrev pub run_of : Class → List ℕ → List ℕ
run_of class bytes = take_while (belongs class) bytes

abbrev pub after_run : Class → List ℕ → List ℕ
after_run class bytes = drop (prefix_len (belongs class) bytes) bytes

-- ---- names

abbrev pub find_key : List (List ℕ × Key) → List ℕ → Option Key
find_key [] v = None
find_key (r ∷ rows) v = if bytes_eq r.0 v then Some r.1 else find_key rows v

-- the reserved words by their first letter
unfoldable pub groups : List (ℕ × List (List ℕ × Key))
groups =
    (65, map (λ r. (r.0.now, r.1)) KEYS_A)
    ∷ (66, map (λ r. (r.0.now, r.1)) KEYS_B)
    ∷ (67, map (λ r. (r.0.now, r.1)) KEYS_C)
    ∷ (69, map (λ r. (r.0.now, r.1)) KEYS_E)
    ∷ (70, map (λ r. (r.0.now, r.1)) KEYS_F)
    ∷ (73, map (λ r. (r.0.now, r.1)) KEYS_I)
    ∷ (77, map (λ r. (r.0.now, r.1)) KEYS_M)
    ∷ (78, map (λ r. (r.0.now, r.1)) KEYS_N)
    ∷ (79, map (λ r. (r.0.now, r.1)) KEYS_O)
    ∷ (80, map (λ r. (r.0.now, r.1)) KEYS_P)
    ∷ (82, map (λ r. (r.0.now, r.1)) KEYS_R)
    ∷ (83, map (λ r. (r.0.now, r.1)) KEYS_S)
    ∷ (84, map (λ r. (r.0.now, r.1)) KEYS_T)
    ∷ (86, map (λ r. (r.0.now, r.1)) KEYS_V)
    ∷ (87, map (λ r. (r.0.now, r.1)) KEYS_W)
    ∷ []

abbrev pub group_at : List (ℕ × List (List ℕ × Key)) → ℕ → List (List ℕ × Key)
group_at [] b = []
group_at (g ∷ gs) b = if b == g.0 then g.1 else group_at gs b

unfoldable pub key_of : List ℕ → Option Key
key_of [] = None
key_of (b ∷ v) = find_key (group_at groups b) (b ∷ v)

abbrev pub named : List ℕ → Option Key → Word
named v (Some k) = key k
named v None = name v

unfoldable pub name_at : Reader Word
name_at bytes = Some (named (run_of classes.NamePart bytes) (key_of (run_of classes.NamePart bytes)), after_run classes.NamePart bytes)

-- ---- numbers

unfoldable pub decimal_at : Reader Word
decimal_at bytes = guard (nat_le (value 10 (run_of classes.Digit bytes)) 2147483647) (lit (number (pos (value 10 (run_of classes.Digit bytes)))), after_run classes.Digit bytes)

-- after the `#`
unfoldable pub pattern_at : Reader Word
pattern_at bytes =
    let digits = run_of classes.HexDigit bytes in
    guard (nat_le 1 (length digits) && nat_le (length digits) 8 && nat_lt (value 16 digits) 4294967296) (lit (number (cast_signed w32 (value 16 digits))), after_run classes.HexDigit bytes)

-- ---- literals

abbrev pub code_at : Reader ℕ
code_at (h ∷ l ∷ rest) = guard (is_ascii_hexdigit h && is_ascii_hexdigit l) (16 * digit_of h + digit_of l, rest)
code_at _ = None

-- after the `*`
unfoldable pub escape_at : Reader ℕ
escape_at [] = None
escape_at (c ∷ rest) = if c == 35 then code_at rest else (escape_of c >>= λ b. Some (b, rest))

unfoldable pub char_at : ℕ → Reader ℕ
char_at quote [] = None
char_at quote (b ∷ rest) = if b == 42 then escape_at rest else guard (is_plain quote b) (b, rest)

-- the closing quote after a byte
abbrev pub closed_at : ℕ → Reader Word
closed_at b [] = None
closed_at b (q ∷ rest) = guard (q == 39) (lit (byte b), rest)

-- after the quote
unfoldable pub byte_at : Reader Word
byte_at bytes = char_at 39 bytes >>= λ x. closed_at x.0 x.1

-- The bytes of a string, where the first so many are read already.
unfoldable pub chars_from : ℕ → Reader (List ℕ)
chars_from skipped [] = None
chars_from (suc skipped) (b ∷ rest) = chars_from skipped rest
chars_from zero (b ∷ rest) = if b == 34 then Some ([], rest) else (char_at 34 (b ∷ rest) >>= λ x. chars_from (length rest - length x.1) rest >>= λ y. Some (x.0 ∷ y.0, y.1))

-- after the quote
unfoldable pub string_at : Reader Word
string_at bytes = chars_from 0 bytes >>= λ x. Some (lit (text x.0), x.1)

-- ---- symbols

-- a symbol of two bytes
unfoldable pub double_of : ℕ → ℕ → Option Sym
double_of a b =
    if a == 58 && b == 61 then Some s.Assign else (if a == 58 && b == 58 then Some s.DoubleColon else (if a == 60 && b == 62 then Some s.NotEqual
    else (if a == 60 && b == 61 then Some s.LessEqual else (if a == 62 && b == 61 then Some s.GreaterEqual else (if a == 60 && b == 60 then Some s.ShiftLeft
    else (if a == 62 && b == 62 then Some s.ShiftRight else (if a == 62 && b == 60 then Some s.BitXor else (if a == 47 && b == 92 then Some s.BitAnd
    else (if a == 92 && b == 47 then Some s.BitOr else None)))))))))

-- a symbol of one byte
unfoldable pub single_of : ℕ → Option Sym
single_of b =
    if b == 58 then Some s.Colon else (if b == 59 then Some s.Semicolon else (if b == 44 then Some s.Comma else (if b == 40 then Some s.OpenParen
    else (if b == 41 then Some s.CloseParen else (if b == 91 then Some s.OpenBracket else (if b == 93 then Some s.CloseBracket else (if b == 38 then Some s.Ampersand
    else (if b == 63 then Some s.Question else (if b == 33 then Some s.Exclamation else (if b == 61 then Some s.Equal else (if b == 60 then Some s.Less
    else (if b == 62 then Some s.Greater else (if b == 43 then Some s.Plus else (if b == 45 then Some s.Minus else (if b == 42 then Some s.Times
    else (if b == 47 then Some s.Divide else (if b == 92 then Some s.Remainder else (if b == 126 then Some s.Tilde else None))))))))))))))))))

abbrev pub single_at : Reader Word
single_at [] = None
single_at (a ∷ rest) = single_of a >>= λ m. Some (mark m, rest)

abbrev pub double_at : Reader Word
double_at (a ∷ b ∷ rest) = double_of a b >>= λ m. Some (mark m, rest)
double_at _ = None

abbrev pub or_else : {A : Type 0} → Option A → Option A → Option A
or_else (Some x) y = Some x
or_else None y = y

unfoldable pub symbol_at : Reader Word
symbol_at bytes = or_else (double_at bytes) (single_at bytes)

-- ---- lines

unfoldable pub word_at : Reader Word
word_at [] = None
word_at (b ∷ rest) =
    if is_ascii_alphabetic b then name_at (b ∷ rest) else (if is_ascii_digit b then decimal_at (b ∷ rest) else (if b == 35 then pattern_at rest
    else (if b == 39 then byte_at rest else (if b == 34 then string_at rest else symbol_at (b ∷ rest)))))

-- The words of a physical line, where the first so many bytes are read already.
unfoldable pub words_from : ℕ → List ℕ → Option (List Word)
words_from skipped [] = Some []
words_from (suc skipped) (b ∷ rest) = words_from skipped rest
words_from zero (b ∷ rest) = if b == 32 then words_from 0 rest else (if begins_comment (b ∷ rest) then Some [] else (word_at (b ∷ rest) >>= λ x. words_from (length rest - length x.1) rest >>= λ ws. Some (x.0 ∷ ws)))

-- a line that is read so far, if any, as the definitions have it
abbrev pub pending_line : Option Line → Option LogicalLine
pending_line pending = option_map logical_line_of pending

-- what is read so far after one more physical line
abbrev pub joined_with : Option LogicalLine → ℕ → ℕ → List Word → Option (Option LogicalLine)
joined_with pending n spaces [] = Some pending
joined_with None n spaces (w ∷ ws) = guard (spaces % 2 == 0) (Some (logical_line n (spaces / 2) (w ∷ ws)))
joined_with (Some (logical_line m level vs)) n spaces (w ∷ ws) = guard (nat_le level (spaces / 2)) (Some (logical_line m level (vs ++ w ∷ ws)))

-- a logical line that does not go on is one of the logical lines, and one that does is still pending
abbrev pub finished : Option LogicalLine → List LogicalLine
finished None = []
finished (Some (logical_line n level ws)) = if goes_on ws then [] else logical_line n level ws ∷ []

abbrev pub unfinished : Option LogicalLine → Option LogicalLine
unfinished None = None
unfinished (Some (logical_line n level ws)) = if goes_on ws then Some (logical_line n level ws) else None

abbrev pub logical_lines_end : Option LogicalLine → Option (List LogicalLine)
logical_lines_end None = Some []
logical_lines_end (Some r) = None

-- the logical lines of these lines, where a logical line that goes on may stand before them
unfoldable pub logical_lines_from : Option LogicalLine → List Physical → Option (List LogicalLine)
logical_lines_from pending [] = logical_lines_end pending
logical_lines_from pending (p ∷ more) = words_from 0 p.1 >>= λ ws. joined_with pending p.0 (indent p.1) ws >>= λ next. logical_lines_from (unfinished next) more >>= λ logical_lines. Some (finished next ++ logical_lines)

unfoldable pub lines_at : List ℕ → Option (List LogicalLine)
lines_at bytes = if nat_le (length bytes) 1048576 then logical_lines_from None (enumerate_from 1 (lines bytes)) else None

-- a line that is finished was put behind the others
abbrev pub AddsFinished : {A B : Type 0} → Vec Line A → Option Line → Vec Line B → Type 0
AddsFinished old pending new = logical_lines new.items ≡ logical_lines old.items ++ finished (pending_line pending)

-- the logical lines of a text, whether it is too long or not
abbrev pub all_lines : List ℕ → Option (List LogicalLine)
all_lines bytes = logical_lines_from None (enumerate_from 1 (lines bytes))
