-- Words, by the relation and by the function.
use Rattle.std.proofs.Common.{◌≡◌, ◌≤◌, ◌≢◌, ℕ, suc, Bool, true, ◌&&◌, eqb, leb, ltb, List, [], ◌∷◌, ◌++◌, length, drop, Option, Some, None, refl, sym, ap, subst, ◌∙◌, append_assoc, arith, inl, inr, pos}
use Rattle.std.specs.Char.{is_ascii_alphabetic, is_ascii_digit, is_ascii_hexdigit}
use Rattle.std.specs.Int.{w32, cast_signed}
use Rattle.std.specs.List.{list_all, prefix_len, take_while}
use Rattle.std.proofs.lemmas.Bool.{and_parts, eqb-true, leb-true, le-leb, lt-ltb}
use Rattle.std.proofs.lemmas.List.Sums.{take_while-cons}
use Rattle.occ_text.specs.declared.token.Key.{Key}
use Rattle.occ_text.specs.declared.token.Sym.{Sym}
use Rattle.occ_text.specs.declared.token.Sym.TheVariants as s
use Rattle.occ_text.specs.Words.{Word, lit, number, byte}
use Rattle.occ_text.specs.Spelling.{letters, marks, is_name_part, value, begins, LongestRun, Spells, keyword, other_name, decimal, pattern, one_byte, string, symbol, Character}
use Rattle.occ_text.specs.Reading.{key_of, named, name_at, decimal_at, pattern_at, char_at, closed_at, byte_at, chars_from, string_at, symbol_at, word_at}
use Rattle.occ_text.proofs.Basics.{bind_some, some_is, guard_some, chosen, Takes}
use Rattle.occ_text.proofs.Keys.{key_again, key_sound, letters_begin}
use Rattle.occ_text.proofs.Literals.{char_sound, char_again, char_takes, chars_sound, chars_again, chars_take}
use Rattle.occ_text.proofs.Numbers.{letter_is_part, digit_is_no_letter, pattern_fits}
use Rattle.occ_text.proofs.Runs.{run_is_longest, longest_is_run, begins-append}
use Rattle.occ_text.proofs.Symbols.{symbol_sound, symbol_again, symbol_takes}

-- ---- what is read is spelled

-- a run begins as the bytes do
run_begins : (p : ℕ → Bool) (b : ℕ) (rest : List ℕ) → p b ≡ true → take_while p (b ∷ rest) ≡ b ∷ take_while p rest
run_begins p b rest h = rw (take_while-cons p b rest, h) refl

name_sound : (b : ℕ) (rest : List ℕ) (x : Word × List ℕ) → is_ascii_alphabetic b ≡ true → name_at (b ∷ rest) ≡ Some x → Spells (b ∷ rest) x.0 x.1
unfolding name_at
name_sound b rest x letter e =
    let run = take_while is_name_part (b ∷ rest) in
    let after = drop (prefix_len is_name_part (b ∷ rest)) (b ∷ rest) in
    subst (λ (y : Word × List ℕ). Spells (b ∷ rest) y.0 y.1) (some_is _ x e) (go (key_of run) refl)
  where
    go : (k : Option Key) → key_of (take_while is_name_part (b ∷ rest)) ≡ k → Spells (b ∷ rest) (named (take_while is_name_part (b ∷ rest)) k) (drop (prefix_len is_name_part (b ∷ rest)) (b ∷ rest))
    go (Some k) h = keyword k (subst (λ (v : List ℕ). LongestRun is_name_part (b ∷ rest) v (drop (prefix_len is_name_part (b ∷ rest)) (b ∷ rest))) (sym (key_sound _ k h)) (run_is_longest is_name_part (b ∷ rest)))
    go None h =
        let starts : begins is_ascii_alphabetic (take_while is_name_part (b ∷ rest)) ≡ true = rw (run_begins is_name_part b rest (letter_is_part b letter)) letter in
        other_name (run_is_longest is_name_part (b ∷ rest)) starts (λ k same. let found : key_of (take_while is_name_part (b ∷ rest)) ≡ Some k = rw (← same) (key_again k) in absurd cc)

not_empty : (b : ℕ) (rest run : List ℕ) → run ≡ b ∷ rest → run ≢ []
not_empty b rest run e h = absurd cc

decimal_sound : (b : ℕ) (rest : List ℕ) (x : Word × List ℕ) → is_ascii_digit b ≡ true → decimal_at (b ∷ rest) ≡ Some x → Spells (b ∷ rest) x.0 x.1
unfolding decimal_at
decimal_sound b rest x digit e =
    let g = guard_some (leb (value 10 (take_while is_ascii_digit (b ∷ rest))) 2147483647) _ x e in
    subst (λ (y : Word × List ℕ). Spells (b ∷ rest) y.0 y.1) g.1 (decimal (run_is_longest is_ascii_digit (b ∷ rest)) (not_empty b _ _ (run_begins is_ascii_digit b rest digit)) (leb-true _ _ g.0))

some_digits : (digits : List ℕ) → 1 ≤ length digits → digits ≢ []
some_digits [] h e = absurd (omega arith)
some_digits (d ∷ digits) h e = absurd cc

pattern_sound : (bytes : List ℕ) (x : Word × List ℕ) → pattern_at bytes ≡ Some x → Spells (35 ∷ bytes) x.0 x.1
unfolding pattern_at
pattern_sound bytes x e =
    let digits = take_while is_ascii_hexdigit bytes in
    let g = guard_some (leb 1 (length digits) && leb (length digits) 8 && ltb (value 16 digits) 4294967296) _ x e in
    let parts = and_parts (leb 1 (length digits)) (leb (length digits) 8) (and_parts (leb 1 (length digits) && leb (length digits) 8) (ltb (value 16 digits) 4294967296) g.0).0 in
    subst (λ (y : Word × List ℕ). Spells (35 ∷ bytes) y.0 y.1) g.1 (pattern (run_is_longest is_ascii_hexdigit bytes) (some_digits digits (leb-true _ _ parts.0)) (leb-true _ _ parts.1))

closed_sound : (b : ℕ) (bytes after : List ℕ) (x : Word × List ℕ) → Character 39 bytes b after → closed_at b after ≡ Some x → Spells (39 ∷ bytes) x.0 x.1
closed_sound b bytes [] x c e = absurd cc
closed_sound b bytes (q ∷ rest) x c e =
    let g = guard_some (eqb q 39) (lit (byte b), rest) x e in
    subst (λ (y : Word × List ℕ). Spells (39 ∷ bytes) y.0 y.1) g.1 (one_byte (subst (λ (n : ℕ). Character 39 bytes b (n ∷ rest)) (eqb-true q 39 g.0) c))

byte_sound : (bytes : List ℕ) (x : Word × List ℕ) → byte_at bytes ≡ Some x → Spells (39 ∷ bytes) x.0 x.1
unfolding byte_at
byte_sound bytes x e =
    let c = bind_some (char_at 39 bytes) (λ y. closed_at y.0 y.1) x e in
    closed_sound c.0.0 bytes c.0.1 x (char_sound 39 bytes c.0 c.1) c.2

string_sound : (bytes : List ℕ) (x : Word × List ℕ) → string_at bytes ≡ Some x → Spells (34 ∷ bytes) x.0 x.1
unfolding string_at
string_sound bytes x e =
    let c = bind_some (chars_from 0 bytes) _ x e in
    subst (λ (y : Word × List ℕ). Spells (34 ∷ bytes) y.0 y.1) (some_is _ x c.2) (string (chars_sound 0 bytes c.0 c.1))

pub word_sound : (bytes : List ℕ) (x : Word × List ℕ) → word_at bytes ≡ Some x → Spells bytes x.0 x.1
unfolding word_at
word_sound [] x e = absurd cc
word_sound (b ∷ rest) x e =
    elim (chosen (is_ascii_alphabetic b) (name_at (b ∷ rest)) _ (Some x) e) [
      | inl a ↦ name_sound b rest x a.0 a.1
      | inr a ↦ elim (chosen (is_ascii_digit b) (decimal_at (b ∷ rest)) _ (Some x) a.1) [
        | inl a ↦ decimal_sound b rest x a.0 a.1
        | inr a ↦ elim (chosen (eqb b 35) (pattern_at rest) _ (Some x) a.1) [
          | inl a ↦ rw (eqb-true b 35 a.0) (pattern_sound rest x a.1)
          | inr a ↦ elim (chosen (eqb b 39) (byte_at rest) _ (Some x) a.1) [
            | inl a ↦ rw (eqb-true b 39 a.0) (byte_sound rest x a.1)
            | inr a ↦ elim (chosen (eqb b 34) (string_at rest) (symbol_at (b ∷ rest)) (Some x) a.1) [
              | inl a ↦ rw (eqb-true b 34 a.0) (string_sound rest x a.1)
              | inr a ↦ symbol_sound (b ∷ rest) x a.1
            ]
          ]
        ]
      ]
    ]

-- ---- what is spelled is read

at_letter : (bytes : List ℕ) → begins is_ascii_alphabetic bytes ≡ true → word_at bytes ≡ name_at bytes
unfolding word_at
at_letter [] h = absurd cc
at_letter (b ∷ rest) h = rw h refl

at_digit : (bytes : List ℕ) → begins is_ascii_digit bytes ≡ true → word_at bytes ≡ decimal_at bytes
unfolding word_at
at_digit [] h = absurd cc
at_digit (b ∷ rest) h = rw (digit_is_no_letter b h, h) refl

at_symbol : (m : Sym) (rest : List ℕ) → word_at (marks m ++ rest) ≡ symbol_at (marks m ++ rest)
unfolding word_at marks
at_symbol s.Assign rest = refl
at_symbol _ rest = refl

at_hash : (rest : List ℕ) → word_at (35 ∷ rest) ≡ pattern_at rest
unfolding word_at
at_hash rest = refl

at_quote : (rest : List ℕ) → word_at (39 ∷ rest) ≡ byte_at rest
unfolding word_at
at_quote rest = refl

at_double_quote : (rest : List ℕ) → word_at (34 ∷ rest) ≡ string_at rest
unfolding word_at
at_double_quote rest = refl

name_is : (bytes v rest : List ℕ) → LongestRun is_name_part bytes v rest → name_at bytes ≡ Some (named v (key_of v), rest)
unfolding name_at
name_is bytes v rest r = let e = longest_is_run is_name_part bytes v rest r in rw (e.0, e.1) refl

no_key : (v : List ℕ) → ((k : Key) → letters k ≢ v) → key_of v ≡ None
no_key v h = go (key_of v) refl
  where
    go : (o : Option Key) → key_of v ≡ o → o ≡ None
    go (Some k) e = absurd (h k (key_sound v k e))
    go None e = refl

all_begin : (p : ℕ → Bool) (run : List ℕ) → run ≢ [] → list_all p run ≡ true → begins p run ≡ true
all_begin p [] ne h = absurd (ne refl)
all_begin p (b ∷ run) ne h = (and_parts (p b) (list_all p run) h).0

has_digits : (digits : List ℕ) → digits ≢ [] → leb 1 (length digits) ≡ true
has_digits [] ne = absurd (ne refl)
has_digits (d ∷ digits) ne = le-leb 1 (suc (length digits)) (omega arith)

decimal_is : (bytes digits rest : List ℕ) → LongestRun is_ascii_digit bytes digits rest → value 10 digits ≤ 2147483647 → decimal_at bytes ≡ Some (lit (number (pos (value 10 digits))), rest)
unfolding decimal_at
decimal_is bytes digits rest r small =
    let e = longest_is_run is_ascii_digit bytes digits rest r in
    rw (e.0, e.1, le-leb (value 10 digits) 2147483647 small) refl

pattern_is : (bytes digits rest : List ℕ) → LongestRun is_ascii_hexdigit bytes digits rest → digits ≢ [] → length digits ≤ 8 → pattern_at bytes ≡ Some (lit (number (cast_signed w32 (value 16 digits))), rest)
unfolding pattern_at
pattern_is bytes digits rest r ne short =
    let e = longest_is_run is_ascii_hexdigit bytes digits rest r in
    rw (e.0, e.1, has_digits digits ne, le-leb (length digits) 8 short, lt-ltb (value 16 digits) 4294967296 (pattern_fits digits short)) refl

pub word_again : {w : Word} {bytes rest : List ℕ} → Spells bytes w rest → word_at bytes ≡ Some (w, rest)
unfolding byte_at string_at
word_again (keyword {bytes = bytes} {rest = rest} k r) =
    let starts : begins is_ascii_alphabetic bytes ≡ true = rw r.whole (begins-append is_ascii_alphabetic (letters k) rest (letters_begin k)) in
    at_letter bytes starts ∙ name_is bytes (letters k) rest r ∙ ap (λ (o : Option Key). Some (named (letters k) o, rest)) (key_again k)
word_again (other_name {bytes = bytes} {v = v} {rest = rest} r letter other) =
    let starts : begins is_ascii_alphabetic bytes ≡ true = rw r.whole (begins-append is_ascii_alphabetic v rest letter) in
    at_letter bytes starts ∙ name_is bytes v rest r ∙ ap (λ (o : Option Key). Some (named v o, rest)) (no_key v other)
word_again (decimal {bytes = bytes} {digits = digits} {rest = rest} r ne small) =
    let starts : begins is_ascii_digit bytes ≡ true = rw r.whole (begins-append is_ascii_digit digits rest (all_begin is_ascii_digit digits ne r.each)) in
    at_digit bytes starts ∙ decimal_is bytes digits rest r small
word_again (pattern {bytes = bytes} {digits = digits} {rest = rest} r ne short) = at_hash bytes ∙ pattern_is bytes digits rest r ne short
word_again (one_byte {bytes = bytes} c) = at_quote bytes ∙ rw (char_again c) refl
word_again (string {bytes = bytes} cs) = at_double_quote bytes ∙ rw (chars_again cs) refl
word_again (symbol {bytes = bytes} {rest = rest} m e longest) =
    let same : word_at bytes ≡ symbol_at bytes = rw e (at_symbol m rest) in
    same ∙ symbol_again m bytes rest e longest

-- ---- what is spelled has a first byte

run_takes : (p : ℕ → Bool) (bytes run rest : List ℕ) → run ≢ [] → LongestRun p bytes run rest → Takes bytes rest
run_takes p bytes [] rest ne r = absurd (ne refl)
run_takes p bytes (b ∷ run) rest ne r = record { first = b; front = run; whole = r.whole }

begun : (p : ℕ → Bool) (run : List ℕ) → begins p run ≡ true → run ≢ []
begun p [] h e = absurd cc
begun p (b ∷ run) h e = absurd cc

pub word_takes : {w : Word} {bytes rest : List ℕ} → Spells bytes w rest → Takes bytes rest
word_takes (keyword {bytes = bytes} {rest = rest} k r) = run_takes is_name_part bytes (letters k) rest (begun is_ascii_alphabetic (letters k) (letters_begin k)) r
word_takes (other_name {bytes = bytes} {v = v} {rest = rest} r letter other) = run_takes is_name_part bytes v rest (begun is_ascii_alphabetic v letter) r
word_takes (decimal {bytes = bytes} {digits = digits} {rest = rest} r ne small) = run_takes is_ascii_digit bytes digits rest ne r
word_takes (pattern {digits = digits} r ne short) = record { first = 35; front = digits; whole = ap (λ (t : List ℕ). 35 ∷ t) r.whole }
word_takes (one_byte {rest = rest} c) =
    let t = char_takes c in
    record { first = 39; front = t.first ∷ t.front ++ 39 ∷ []; whole = ap (λ (u : List ℕ). 39 ∷ u) (t.whole ∙ ap (λ (u : List ℕ). t.first ∷ u) (sym (append_assoc t.front (39 ∷ []) rest))) }
word_takes (string cs) = let t = chars_take cs in record { first = 34; front = t.first ∷ t.front; whole = ap (λ (u : List ℕ). 34 ∷ u) t.whole }
word_takes (symbol {bytes = bytes} {rest = rest} m e longest) = symbol_takes m bytes rest e
