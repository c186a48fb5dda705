-- What is written behind the name of a file is ASCII.
use Rattle.std.proofs.Common.{Bool, List, [], codes, drop, false, length, replicate, true, ℕ, ◌++◌, ◌-◌, ◌<◌, ◌==◌, ◌^◌, ◌≤◌, ◌∷◌, ◌≡◌, arith, refl, subst, sym}
use Rattle.std.specs.Fmt.{decimal}
use Rattle.std.specs.Str.{IsAscii}
use Rattle.std.proofs.lemmas.Bool.Decides.{nat_tests}
use Rattle.std.proofs.lemmas.Fmt.{IsAscii-decimal}
use Rattle.std.proofs.lemmas.List.{drop-append-le, length-append}
use Rattle.std.proofs.lemmas.List.Elements.{All-replicate}
use Rattle.std.proofs.lemmas.Str.{IsAscii-append}
use Rattle.std.proofs.lemmas.Str.Ascii.{IsAscii-cons, IsAscii-from_all, IsAscii-nil}
use Rattle.occ_explain.specs.Explanations.{caret_line, explained_text, first_line, hint_line, is_hidden, printable, shown_byte, source_line}
use Rattle.occ_files.specs.Names.{printed_name}

byte_is : (b : ℕ) → shown_byte b < 128
byte_is b = by (is_hidden b) refl
  where
    by : (h : Bool) → is_hidden b ≡ h → shown_byte b < 128
    by true e = rw e (omega arith)
    by false e = let low : b < 127 = grind (arith, nat_tests) in rw e (omega arith)

shown_is : (bytes : List ℕ) → IsAscii (printable bytes)
shown_is [] = IsAscii-nil
shown_is (b ∷ bytes) = IsAscii-cons (shown_byte b) (printable bytes) (byte_is b) (shown_is bytes)

spaces : (n : ℕ) → IsAscii (replicate n 32)
spaces n = IsAscii-from_all (replicate n 32) (All-replicate (λ b. b < 128) n 32 (omega arith))

feed : IsAscii (10 ∷ [])
feed = IsAscii-cons 10 [] (omega arith) IsAscii-nil

bar : IsAscii (codes " | ")
bar = IsAscii-cons 32 (124 ∷ 32 ∷ []) (omega arith) (IsAscii-cons 124 (32 ∷ []) (omega arith) (IsAscii-cons 32 [] (omega arith) IsAscii-nil))

number_is : (n : ℕ) → n < 2 ^ 64 → IsAscii (58 ∷ decimal n)
number_is n h = IsAscii-cons 58 (decimal n) (omega arith) (IsAscii-decimal n h)

-- a text that has so many bytes, behind which all are ASCII
record IsBehind (n : ℕ) (text : List ℕ) : Type 0 where
  long : n ≤ length text
  ascii : IsAscii (drop n text)

-- and one that goes on in ASCII
longer : (n : ℕ) (text more : List ℕ) → IsBehind n text → IsAscii more → IsBehind n (text ++ more)
longer n text more at ascii = record {
  long = omega (arith, length-append text more, at.long);
  ascii = subst IsAscii (sym (drop-append-le n text more at.long)) (IsAscii-append (drop n text) more at.ascii ascii);
}

none_left : (bytes : List ℕ) → drop (length bytes) bytes ≡ []
none_left [] = refl
none_left (b ∷ bytes) = none_left bytes

begun : (file : List ℕ) → IsBehind (length (printed_name file)) (printed_name file)
begun file =
    record {
      long = omega arith;
      ascii = subst IsAscii (sym (none_left (printed_name file))) IsAscii-nil;
    }

pub explained_is_ascii : (file : List ℕ) (line column : ℕ) (source wrong hint : List ℕ) → line < 2 ^ 64 → column < 2 ^ 64
    → IsAscii (drop (length (printed_name file)) (explained_text file line column source wrong hint))
unfolding explained_text
explained_is_ascii file line column source wrong hint h k = all.ascii
  where
    n : ℕ
    n = length (printed_name file)

    to_line : IsBehind n (printed_name file ++ 58 ∷ decimal line)
    to_line = longer n (printed_name file) (58 ∷ decimal line) (begun file) (number_is line h)

    to_column : IsBehind n (printed_name file ++ 58 ∷ decimal line ++ 58 ∷ decimal column)
    to_column = longer n (printed_name file ++ 58 ∷ decimal line) (58 ∷ decimal column) to_line (number_is column k)

    to_colon : IsBehind n (printed_name file ++ 58 ∷ decimal line ++ 58 ∷ decimal column ++ codes ": ")
    to_colon =
        longer n (printed_name file ++ 58 ∷ decimal line ++ 58 ∷ decimal column) (codes ": ") to_column
        (IsAscii-cons 58 (32 ∷ []) (omega arith) (IsAscii-cons 32 [] (omega arith) IsAscii-nil))

    first : IsBehind n (first_line file line column wrong)
    first =
        longer n (printed_name file ++ 58 ∷ decimal line ++ 58 ∷ decimal column ++ codes ": " ++ printable wrong) (10 ∷ [])
        (longer n (printed_name file ++ 58 ∷ decimal line ++ 58 ∷ decimal column ++ codes ": ") (printable wrong) to_colon (shown_is wrong)) feed

    source_is : IsAscii (source_line line source)
    source_is =
        IsAscii-append (decimal line ++ codes " | " ++ printable source) (10 ∷ [])
        (IsAscii-append (decimal line ++ codes " | ") (printable source) (IsAscii-append (decimal line) (codes " | ") (IsAscii-decimal line h) bar) (shown_is source)) feed

    caret_is : IsAscii (caret_line line column)
    caret_is =
        IsAscii-append (replicate (length (decimal line)) 32 ++ codes " | " ++ replicate (column - 1) 32) (94 ∷ 10 ∷ [])
        (IsAscii-append (replicate (length (decimal line)) 32 ++ codes " | ") (replicate (column - 1) 32)
        (IsAscii-append (replicate (length (decimal line)) 32) (codes " | ") (spaces (length (decimal line))) bar) (spaces (column - 1)))
        (IsAscii-cons 94 (10 ∷ []) (omega arith) feed)

    hint_is : (b : Bool) → (length hint == 0) ≡ b → IsAscii (hint_line hint)
    hint_is true e = rw e IsAscii-nil
    hint_is false e =
        let some : IsAscii (32 ∷ 32 ∷ printable hint ++ 10 ∷ []) =
        IsAscii-append (32 ∷ 32 ∷ printable hint) (10 ∷ []) (IsAscii-cons 32 (32 ∷ printable hint) (omega arith) (IsAscii-cons 32 (printable hint) (omega arith) (shown_is hint))) feed in
        rw e some

    all : IsBehind n (explained_text file line column source wrong hint)
    all =
        longer n (first_line file line column wrong ++ source_line line source ++ caret_line line column) (hint_line hint)
        (longer n (first_line file line column wrong ++ source_line line source) (caret_line line column)
        (longer n (first_line file line column wrong) (source_line line source) first source_is) caret_is) (hint_is (length hint == 0) refl)
