-- How words are spelled. Bytes are numbers: 34 is `"`, 35 is `#`, 39 is `'`, 42 is `*`.
-- Manual: names, literals and special characters. Escapes beyond the manual's, and the limits: (own).
use Rattle.std.specs.Prelude.{◌≡◌, ◌≢◌, ◌≤◌, ℕ, ◌+◌, ◌-◌, ◌*◌, Bool, false, not, ◌&&◌, ◌||◌, ◌==◌, nat_le, if◌then◌else◌, List, [], ◌∷◌, ◌++◌, length, Option, Some, None, IsTrue, IsFalse, pos, codes}
use Rattle.std.specs.Char.{is_ascii_alphabetic, is_ascii_alphanumeric, is_ascii_digit, is_ascii_hexdigit}
use Rattle.std.specs.Int.{w32, cast_signed, is_in_range}
use Rattle.std.specs.List.{fold, list_all}
use Rattle.occ_text.specs.declared.token.Key.{Key}
use Rattle.occ_text.specs.declared.token.Key.TheVariants as k
use Rattle.occ_text.specs.declared.token.Sym.{Sym}
use Rattle.occ_text.specs.declared.token.Sym.TheVariants as s
use Rattle.occ_text.specs.Words.{Word, key, name, lit, mark, number, byte, text}

-- ---- tables

-- the letters of a reserved word
unfoldable pub letters : Key → List ℕ
letters k.After = codes "AFTER"
letters k.Alt = codes "ALT"
letters k.And = codes "AND"
letters k.Any = codes "ANY"
letters k.At = codes "AT"
letters k.BitAnd = codes "BITAND"
letters k.BitNot = codes "BITNOT"
letters k.BitOr = codes "BITOR"
letters k.Bool = codes "BOOL"
letters k.Byte = codes "BYTE"
letters k.Case = codes "CASE"
letters k.Chan = codes "CHAN"
letters k.Else = codes "ELSE"
letters k.False = codes "FALSE"
letters k.For = codes "FOR"
letters k.From = codes "FROM"
letters k.Function = codes "FUNCTION"
letters k.If = codes "IF"
letters k.Int = codes "INT"
letters k.Int16 = codes "INT16"
letters k.Int32 = codes "INT32"
letters k.Int64 = codes "INT64"
letters k.Is = codes "IS"
letters k.Minus = codes "MINUS"
letters k.MostNeg = codes "MOSTNEG"
letters k.MostPos = codes "MOSTPOS"
letters k.Not = codes "NOT"
letters k.Of = codes "OF"
letters k.Or = codes "OR"
letters k.Par = codes "PAR"
letters k.Place = codes "PLACE"
letters k.Placed = codes "PLACED"
letters k.Plus = codes "PLUS"
letters k.Port = codes "PORT"
letters k.Pri = codes "PRI"
letters k.Proc = codes "PROC"
letters k.Processor = codes "PROCESSOR"
letters k.Protocol = codes "PROTOCOL"
letters k.Real32 = codes "REAL32"
letters k.Real64 = codes "REAL64"
letters k.Rem = codes "REM"
letters k.Result = codes "RESULT"
letters k.Retypes = codes "RETYPES"
letters k.Round = codes "ROUND"
letters k.Seq = codes "SEQ"
letters k.Size = codes "SIZE"
letters k.Skip = codes "SKIP"
letters k.Stop = codes "STOP"
letters k.Timer = codes "TIMER"
letters k.Times = codes "TIMES"
letters k.True = codes "TRUE"
letters k.Trunc = codes "TRUNC"
letters k.Val = codes "VAL"
letters k.Valof = codes "VALOF"
letters k.While = codes "WHILE"

-- the bytes of a symbol
unfoldable pub marks : Sym → List ℕ
marks s.Assign = codes ":="
marks s.DoubleColon = codes "::"
marks s.Colon = codes ":"
marks s.Semicolon = codes ";"
marks s.Comma = codes ","
marks s.OpenParen = codes "("
marks s.CloseParen = codes ")"
marks s.OpenBracket = codes "["
marks s.CloseBracket = codes "]"
marks s.Ampersand = codes "&"
marks s.Question = codes "?"
marks s.Exclamation = codes "!"
marks s.Equal = codes "="
marks s.NotEqual = codes "<>"
marks s.LessEqual = codes "<="
marks s.GreaterEqual = codes ">="
marks s.ShiftLeft = codes "<<"
marks s.ShiftRight = codes ">>"
marks s.BitXor = codes "><"
marks s.Less = codes "<"
marks s.Greater = codes ">"
marks s.Plus = codes "+"
marks s.Minus = codes "-"
marks s.Times = codes "*"
marks s.BitAnd = codes "/\\"
marks s.Divide = codes "/"
marks s.BitOr = codes "\\/"
marks s.Remainder = codes "\\"
marks s.Tilde = codes "~"

-- the byte that an escape stands for, by the byte after the `*`: c, n, t, s, and the two quotes and `*` themselves
unfoldable pub escape_of : ℕ → Option ℕ
escape_of c =
    if c == 99 then Some 13 else (if c == 110 then Some 10 else (if c == 116 then Some 9 else (if c == 115 then Some 32
    else (if c == 39 then Some 39 else (if c == 34 then Some 34 else (if c == 42 then Some 42 else None))))))

-- ---- bytes

-- a letter, a digit or a dot
abbrev pub is_name_part : ℕ → Bool
is_name_part b = is_ascii_alphanumeric b || b == 46

-- a character of a literal with this quote: a tab or a printing byte, but neither `*` nor the quote
abbrev pub is_plain : ℕ → ℕ → Bool
is_plain quote b = (b == 9 || (nat_le 32 b && nat_le b 126)) && not (b == 42) && not (b == quote)

-- what a digit stands for, also a hexadecimal one
abbrev pub digit_of : ℕ → ℕ
digit_of d = if is_in_range 48 57 d then d - 48 else (if is_in_range 65 70 d then d - 55 else (if is_in_range 97 102 d then d - 87 else 0))

-- the number that digits stand for in this base
abbrev pub value : ℕ → List ℕ → ℕ
value base = fold (λ n d. base * n + digit_of d) 0

-- the first byte is so
abbrev pub begins : (ℕ → Bool) → List ℕ → Bool
begins p [] = false
begins p (b ∷ bs) = p b

-- the bytes begin with this run of bytes that are so, and the byte after it is not
pub record LongestRun (p : ℕ → Bool) (bytes run rest : List ℕ) : Type 0 where
  pub whole : bytes ≡ run ++ rest
  pub each : IsTrue (list_all p run)
  pub ended : IsFalse (begins p rest)

-- ---- literals

-- a character or an escape at the front of the bytes of a literal, the byte that it stands for, and what follows
pub data Character (quote : ℕ) : List ℕ → ℕ → List ℕ → Type 0 where
  plain : {b : ℕ} {rest : List ℕ} → IsTrue (is_plain quote b) → Character quote (b ∷ rest) b rest
  escaped : {c b : ℕ} {rest : List ℕ} → escape_of c ≡ Some b → Character quote (42 ∷ c ∷ rest) b rest
  coded : {h l : ℕ} {rest : List ℕ} → IsTrue (is_ascii_hexdigit h) → IsTrue (is_ascii_hexdigit l) → Character quote (42 ∷ 35 ∷ h ∷ l ∷ rest) (16 * digit_of h + digit_of l) rest

-- characters and escapes up to the closing quote, the bytes that they stand for, and what follows the quote
pub data Characters (quote : ℕ) : List ℕ → List ℕ → List ℕ → Type 0 where
  closed : {rest : List ℕ} → Characters quote (quote ∷ rest) [] rest
  more : {b : ℕ} {bytes after bs rest : List ℕ} → Character quote bytes b after → Characters quote after bs rest → Characters quote bytes (b ∷ bs) rest

-- ---- words

-- the bytes begin with a spelling of the word, as long as it can be, and the rest follows
pub data Spells : List ℕ → Word → List ℕ → Type 0 where
  keyword : {bytes rest : List ℕ} (k : Key) → LongestRun is_name_part bytes (letters k) rest → Spells bytes (key k) rest
  other_name : {bytes v rest : List ℕ} → LongestRun is_name_part bytes v rest → IsTrue (begins is_ascii_alphabetic v) → ((k : Key) → letters k ≢ v) → Spells bytes (name v) rest
  decimal : {bytes digits rest : List ℕ} → LongestRun is_ascii_digit bytes digits rest → digits ≢ [] → value 10 digits ≤ 2147483647 → Spells bytes (lit (number (pos (value 10 digits)))) rest
  -- `#`, and the digits of a 32-bit pattern
  pattern : {bytes digits rest : List ℕ} → LongestRun is_ascii_hexdigit bytes digits rest → digits ≢ [] → length digits ≤ 8 → Spells (35 ∷ bytes) (lit (number (cast_signed w32 (value 16 digits)))) rest
  -- between single quotes
  one_byte : {b : ℕ} {bytes rest : List ℕ} → Character 39 bytes b (39 ∷ rest) → Spells (39 ∷ bytes) (lit (byte b)) rest
  -- between double quotes
  string : {bytes bs rest : List ℕ} → Characters 34 bytes bs rest → Spells (34 ∷ bytes) (lit (text bs)) rest
  -- the longest symbol that fits
  symbol : {bytes rest : List ℕ} (m : Sym) → bytes ≡ marks m ++ rest → ((n : Sym) (after : List ℕ) → bytes ≡ marks n ++ after → length (marks n) ≤ length (marks m)) → Spells bytes (mark m) rest
