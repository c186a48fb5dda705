-- Characters of literals, by the relation and by the function.
use Rattle.std.proofs.Common.{◌≡◌, ℕ, zero, suc, ◌+◌, ◌-◌, ◌*◌, false, ◌&&◌, eqb, List, [], ◌∷◌, ◌++◌, length, drop, Some, refl, sym, ap, subst, ◌∙◌, append_assoc, inl, inr}
use Rattle.std.specs.Char.{is_ascii_hexdigit}
use Rattle.std.proofs.lemmas.Bool.{and_parts, not-true, eqb-true, cases_Bool}
use Rattle.occ_text.specs.Spelling.{is_plain, digit_of, escape_of, Character, plain, escaped, coded, Characters, closed, more}
use Rattle.occ_text.specs.Reading.{◌>>=◌, guard, code_at, escape_at, char_at, chars_from}
use Rattle.occ_text.proofs.Basics.{bind_some, some_is, guard_some, chosen, Takes, drop_taken}

-- ---- one character

code_sound : (q : ℕ) (bytes : List ℕ) (x : ℕ × List ℕ) → code_at bytes ≡ Some x → Character q (42 ∷ 35 ∷ bytes) x.0 x.1
code_sound q (h ∷ l ∷ rest) x e =
    let g = guard_some (is_ascii_hexdigit h && is_ascii_hexdigit l) (16 * digit_of h + digit_of l, rest) x e in
    let parts = and_parts (is_ascii_hexdigit h) (is_ascii_hexdigit l) g.0 in
    subst (λ (y : ℕ × List ℕ). Character q (42 ∷ 35 ∷ h ∷ l ∷ rest) y.0 y.1) g.1 (coded parts.0 parts.1)
code_sound q _ x e = absurd cc

escape_sound : (q : ℕ) (bytes : List ℕ) (x : ℕ × List ℕ) → escape_at bytes ≡ Some x → Character q (42 ∷ bytes) x.0 x.1
unfolding escape_at
escape_sound q [] x e = absurd cc
escape_sound q (c ∷ rest) x e =
    elim (chosen (eqb c 35) (code_at rest) (escape_of c >>= λ b. Some (b, rest)) (Some x) e) [
      | inl code ↦ rw (eqb-true c 35 code.0) (code_sound q rest x code.1)
      | inr letter ↦
          let b = bind_some (escape_of c) _ x letter.1 in
          subst (λ (y : ℕ × List ℕ). Character q (42 ∷ c ∷ rest) y.0 y.1) (some_is _ x b.2) (escaped b.1)
    ]

pub char_sound : (q : ℕ) (bytes : List ℕ) (x : ℕ × List ℕ) → char_at q bytes ≡ Some x → Character q bytes x.0 x.1
unfolding char_at
char_sound q [] x e = absurd cc
char_sound q (b ∷ rest) x e =
    elim (chosen (eqb b 42) (escape_at rest) (guard (is_plain q b) (b, rest)) (Some x) e) [
      | inl star ↦ rw (eqb-true b 42 star.0) (escape_sound q rest x star.1)
      | inr other ↦
          let g = guard_some (is_plain q b) (b, rest) x other.1 in
          subst (λ (y : ℕ × List ℕ). Character q (b ∷ rest) y.0 y.1) g.1 (plain g.0)
    ]

no_code : (c b : ℕ) → escape_of c ≡ Some b → eqb c 35 ≡ false
unfolding escape_of
no_code c b e =
    elim (cases_Bool (eqb c 35)) [
      | inl is ↦ let h : escape_of 35 ≡ Some b = subst (λ (n : ℕ). escape_of n ≡ Some b) (eqb-true c 35 is) e in absurd cc
      | inr other ↦ other
    ]

pub char_again : {q b : ℕ} {bytes rest : List ℕ} → Character q bytes b rest → char_at q bytes ≡ Some (b, rest)
unfolding char_at escape_at
char_again {q} (plain {b = b} p) =
    let parts = and_parts _ _ p in
    let star : eqb b 42 ≡ false = not-true (eqb b 42) (and_parts _ _ parts.0).1 in
    rw (p, star) refl
char_again (escaped {c = c} {b = b} e) = rw (no_code c b e, e) refl
char_again (coded h l) = rw (h, l) refl

pub char_takes : {q b : ℕ} {bytes rest : List ℕ} → Character q bytes b rest → Takes bytes rest
char_takes (plain {b = b} p) = record { first = b; front = []; whole = refl }
char_takes (escaped {c = c} e) = record { first = 42; front = c ∷ []; whole = refl }
char_takes (coded {h = h} {l = l} p q) = record { first = 42; front = 35 ∷ h ∷ l ∷ []; whole = refl }

-- ---- characters up to the quote

chars_from-drop : (n : ℕ) (bytes : List ℕ) → chars_from n bytes ≡ chars_from 0 (drop n bytes)
unfolding chars_from
chars_from-drop zero bytes = refl
chars_from-drop (suc n) [] = refl
chars_from-drop (suc n) (b ∷ bytes) = chars_from-drop n bytes

no_quote : (b : ℕ) (bytes : List ℕ) (x : ℕ × List ℕ) → char_at 34 (b ∷ bytes) ≡ Some x → eqb b 34 ≡ false
unfolding char_at
no_quote b bytes x e =
    elim (cases_Bool (eqb b 34)) [
      | inl is ↦ let h : char_at 34 (34 ∷ bytes) ≡ Some x = subst (λ (n : ℕ). char_at 34 (n ∷ bytes) ≡ Some x) (eqb-true b 34 is) e in absurd cc
      | inr other ↦ other
    ]

no_char : (q : ℕ) (x : ℕ × List ℕ) → char_at q [] ≡ Some x → ⊥
unfolding char_at
no_char q x e = cc

-- after one character
pub chars_step : (bytes : List ℕ) (b : ℕ) (after : List ℕ) → char_at 34 bytes ≡ Some (b, after) → chars_from 0 bytes ≡ (chars_from 0 after >>= λ y. Some (b ∷ y.0, y.1))
unfolding chars_from
chars_step [] b after e = absurd (no_char 34 (b, after) e)
chars_step (f ∷ tail) b after e = rw (no_quote f tail (b, after) e, e, chars_from-drop (length tail - length after) tail, drop_taken f tail after (char_takes (char_sound 34 (f ∷ tail) (b, after) e))) refl

pub chars_sound : (n : ℕ) (bytes : List ℕ) (x : List ℕ × List ℕ) → chars_from n bytes ≡ Some x → Characters 34 (drop n bytes) x.0 x.1
unfolding chars_from
chars_sound n [] x e = absurd cc
chars_sound (suc n) (b ∷ rest) x e = chars_sound n rest x e
chars_sound zero (b ∷ rest) x e =
    elim (chosen (eqb b 34) (Some ([], rest)) _ (Some x) e) [
      | inl quote ↦ rw (eqb-true b 34 quote.0) (subst (λ (y : List ℕ × List ℕ). Characters 34 (34 ∷ rest) y.0 y.1) (some_is _ x quote.1) closed)
      | inr other ↦
          let a = bind_some (char_at 34 (b ∷ rest)) _ x other.1 in
          let s = char_sound 34 (b ∷ rest) a.0 a.1 in
          let d = bind_some (chars_from (length rest - length a.0.1) rest) _ x a.2 in
          let others = rw (drop_taken b rest a.0.1 (char_takes s)) at (chars_sound (length rest - length a.0.1) rest d.0 d.1) in
          subst (λ (y : List ℕ × List ℕ). Characters 34 (b ∷ rest) y.0 y.1) (some_is _ x d.2) (more s others)
    ]

pub chars_again : {bytes bs rest : List ℕ} → Characters 34 bytes bs rest → chars_from 0 bytes ≡ Some (bs, rest)
unfolding chars_from
chars_again closed = refl
chars_again (more {b = b} {bytes = bytes} {after = after} c cs) = rw (chars_step bytes b after (char_again c), chars_again cs) refl

pub chars_take : {q : ℕ} {bytes bs rest : List ℕ} → Characters q bytes bs rest → Takes bytes rest
chars_take {q} closed = record { first = q; front = []; whole = refl }
chars_take (more c cs) =
    let a = char_takes c in
    let b = chars_take cs in
    record { first = a.first; front = a.front ++ b.first ∷ b.front; whole = a.whole ∙ ap (λ (s : List ℕ). a.first ∷ s) (ap (λ (s : List ℕ). a.front ++ s) b.whole ∙ sym (append_assoc a.front (b.first ∷ b.front) _)) }
