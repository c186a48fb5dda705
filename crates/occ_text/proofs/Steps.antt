-- Reading one after the other, as a loop does.
use Rattle.std.proofs.Common.{◌≡◌, ◌≢◌, ℕ, ◌-◌, ◌<◌, ◌≤◌, true, false, eqb, List, [], ◌∷◌, ◌++◌, length, take, drop, get_or, Option, Some, None, refl, sym, ap, ◌∙◌, append_assoc, arith}
use Rattle.std.proofs.lemmas.Bool.{ne_eqb}
use Rattle.std.proofs.lemmas.List.{append-nil, take_rest, length-append}
use Rattle.occ_text.specs.declared.fault.TextFault.{TextFault}
use Rattle.occ_text.specs.declared.fault.TextFault.TheVariants as faults
use Rattle.occ_text.specs.Words.{Word}
use Rattle.occ_text.specs.Lines.{begins_comment}
use Rattle.occ_text.specs.Reading.{◌>>=◌, Fails, char_at, chars_from, word_at, words_from}
use Rattle.occ_text.proofs.Basics.{Takes}
use Rattle.occ_text.proofs.Literals.{char_sound, char_takes, chars_step}
use Rattle.occ_text.proofs.Spelled.{word_sound, word_takes}
use Rattle.occ_text.proofs.WordLines.{words_step}

-- where the part is not read the whole is not either
pub fails_along : {A B : Type 0} (e : TextFault) (part : Option A) (whole : Option B) → (part ≡ None → whole ≡ None) → Fails e part → Fails e whole
fails_along faults.Memory part whole f h = tt
fails_along _ part whole f h = f h

taken_is_less : (bytes rest : List ℕ) → Takes bytes rest → length rest < length bytes
taken_is_less bytes rest t = rw t.whole (omega (arith, length-append t.front rest))

tail_is : (b : ℕ) (rest : List ℕ) → take (length (b ∷ rest) - 1) (drop 1 (b ∷ rest)) ≡ rest
tail_is b rest = take_rest (b ∷ rest) 1

-- ---- strings

-- what was read before, and what is still read
abbrev pub with_front : List ℕ → Option (List ℕ × List ℕ) → Option (List ℕ × List ℕ)
with_front front read = read >>= λ x. Some (front ++ x.0, x.1)

regroup : (front : List ℕ) (b : ℕ) (read : Option (List ℕ × List ℕ)) → with_front front (read >>= λ y. Some (b ∷ y.0, y.1)) ≡ with_front (front ++ b ∷ []) read
regroup front b (Some x) = ap (λ (ts : List ℕ). Some (ts, x.1)) (sym (append_assoc front (b ∷ []) x.0))
regroup front b None = refl

pub char_is_less : (rest : List ℕ) (b : ℕ) (after : List ℕ) → char_at 34 rest ≡ Some (b, after) → length after < length rest
char_is_less rest b after h = taken_is_less rest after (char_takes (char_sound 34 rest (b, after) h))

module _ (front rest : List ℕ) (total : Option (List ℕ × List ℕ)) (so_far : with_front front (chars_from 0 rest) ≡ total) where
  pub chars_end : length rest < 1 → total ≡ None
  unfolding chars_from
  chars_end h = sym so_far ∙ go rest h
    where
      go : (r : List ℕ) → length r < 1 → with_front front (chars_from 0 r) ≡ None
      go [] h = refl
      go (b ∷ r) h = absurd (omega arith)

  pub chars_close : 1 ≤ length rest → get_or rest 0 0 ≡ 34 → total ≡ Some (front, take (length rest - 1) (drop 1 rest))
  unfolding chars_from
  chars_close h q = sym so_far ∙ go rest h q
    where
      go : (r : List ℕ) → 1 ≤ length r → get_or r 0 0 ≡ 34 → with_front front (chars_from 0 r) ≡ Some (front, take (length r - 1) (drop 1 r))
      go [] h q = absurd (omega arith)
      go (b ∷ r) h q =
          let same : eqb b 34 ≡ true = rw q refl in
          rw (same, tail_is b r, append-nil front) refl

  pub chars_go_on : (b : ℕ) (after : List ℕ) → char_at 34 rest ≡ Some (b, after) → with_front (front ++ b ∷ []) (chars_from 0 after) ≡ total
  chars_go_on b after h = sym (regroup front b (chars_from 0 after)) ∙ ap (with_front front) (sym (chars_step rest b after h)) ∙ so_far

  pub chars_fail : get_or rest 0 0 ≢ 34 → char_at 34 rest ≡ None → total ≡ None
  unfolding chars_from
  chars_fail ne h = sym so_far ∙ go rest ne h
    where
      go : (r : List ℕ) → get_or r 0 0 ≢ 34 → char_at 34 r ≡ None → with_front front (chars_from 0 r) ≡ None
      go [] ne h = refl
      go (b ∷ r) ne h = rw (ne_eqb b 34 ne, h) refl

-- ---- words of a line

abbrev pub after_words : List Word → Option (List Word) → Option (List Word)
after_words front read = read >>= λ ws. Some (front ++ ws)

regroup_words : (front : List Word) (w : Word) (read : Option (List Word)) → after_words front (read >>= λ ws. Some (w ∷ ws)) ≡ after_words (front ++ w ∷ []) read
regroup_words front w (Some ws) = ap (λ (ts : List Word). Some ts) (sym (append_assoc front (w ∷ []) ws))
regroup_words front w None = refl

pub word_is_less : (rest : List ℕ) (w : Word) (after : List ℕ) → word_at rest ≡ Some (w, after) → length after < length rest
word_is_less rest w after h = taken_is_less rest after (word_takes (word_sound rest (w, after) h))

module _ (front : List Word) (rest : List ℕ) (total : Option (List Word)) (so_far : after_words front (words_from 0 rest) ≡ total) where
  pub words_end : length rest < 1 → total ≡ Some front
  unfolding words_from
  words_end h = sym so_far ∙ go rest h
    where
      go : (r : List ℕ) → length r < 1 → after_words front (words_from 0 r) ≡ Some front
      go [] h = rw append-nil refl
      go (b ∷ r) h = absurd (omega arith)

  pub words_space : 1 ≤ length rest → get_or rest 0 0 ≡ 32 → after_words front (words_from 0 (take (length rest - 1) (drop 1 rest))) ≡ total
  unfolding words_from
  words_space h q = go rest h q ∙ so_far
    where
      go : (r : List ℕ) → 1 ≤ length r → get_or r 0 0 ≡ 32 → after_words front (words_from 0 (take (length r - 1) (drop 1 r))) ≡ after_words front (words_from 0 r)
      go [] h q = absurd (omega arith)
      go (b ∷ r) h q =
          let same : eqb b 32 ≡ true = rw q refl in
          rw (tail_is b r, same) refl

  pub words_comment : get_or rest 0 0 ≢ 32 → begins_comment rest ≡ true → total ≡ Some front
  unfolding words_from
  words_comment ne h = sym so_far ∙ go rest ne h
    where
      go : (r : List ℕ) → get_or r 0 0 ≢ 32 → begins_comment r ≡ true → after_words front (words_from 0 r) ≡ Some front
      go [] ne h = absurd cc
      go (b ∷ r) ne h = rw (ne_eqb b 32 ne, h, append-nil front) refl

  pub words_go_on : (w : Word) (after : List ℕ) → begins_comment rest ≡ false → word_at rest ≡ Some (w, after) → after_words (front ++ w ∷ []) (words_from 0 after) ≡ total
  words_go_on w after c h = sym (regroup_words front w (words_from 0 after)) ∙ ap (after_words front) (sym (words_step rest w after c h)) ∙ so_far

  pub words_fail : 1 ≤ length rest → get_or rest 0 0 ≢ 32 → begins_comment rest ≡ false → word_at rest ≡ None → total ≡ None
  unfolding words_from
  words_fail some ne c h = sym so_far ∙ go rest some ne c h
    where
      go : (r : List ℕ) → 1 ≤ length r → get_or r 0 0 ≢ 32 → begins_comment r ≡ false → word_at r ≡ None → after_words front (words_from 0 r) ≡ None
      go [] some ne c h = absurd (omega arith)
      go (b ∷ r) some ne c h = rw (ne_eqb b 32 ne, c, h) refl
