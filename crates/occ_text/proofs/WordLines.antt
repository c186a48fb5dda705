-- The words of a physical line, by the relation and by the function.
use Rattle.std.proofs.Common.{◌≡◌, ℕ, zero, suc, ◌-◌, true, false, eqb, List, [], ◌∷◌, length, drop, Some, None, refl, subst, inl, inr}
use Rattle.std.proofs.lemmas.Bool.{and_parts, eqb-true, cases_Bool}
use Rattle.occ_text.specs.Words.{Word}
use Rattle.occ_text.specs.Lines.{begins_comment, Reads, ended, comment, space, word}
use Rattle.occ_text.specs.Reading.{◌>>=◌, symbol_at, double_of, single_of, word_at, words_from}
use Rattle.occ_text.proofs.Basics.{bind_some, some_is, chosen, drop_taken}
use Rattle.occ_text.proofs.Spelled.{word_sound, word_again, word_takes}

words_from-drop : (n : ℕ) (bytes : List ℕ) → words_from n bytes ≡ words_from 0 (drop n bytes)
unfolding words_from
words_from-drop zero bytes = refl
words_from-drop (suc n) [] = refl
words_from-drop (suc n) (b ∷ bytes) = words_from-drop n bytes

nothing_at_space : (bytes : List ℕ) → word_at (32 ∷ bytes) ≡ None
unfolding word_at symbol_at double_of single_of
nothing_at_space [] = refl
nothing_at_space (b ∷ bytes) = refl

nothing_at_end : word_at [] ≡ None
unfolding word_at
nothing_at_end = refl

no_space : (b : ℕ) (rest : List ℕ) (x : Word × List ℕ) → word_at (b ∷ rest) ≡ Some x → eqb b 32 ≡ false
no_space b rest x e =
    elim (cases_Bool (eqb b 32)) [
      | inl is ↦ let h : word_at (32 ∷ rest) ≡ Some x = subst (λ (n : ℕ). word_at (n ∷ rest) ≡ Some x) (eqb-true b 32 is) e in let g = nothing_at_space rest in absurd cc
      | inr other ↦ other
    ]

-- after one word
pub words_step : (bytes : List ℕ) (w : Word) (after : List ℕ) → begins_comment bytes ≡ false → word_at bytes ≡ Some (w, after) → words_from 0 bytes ≡ (words_from 0 after >>= λ ws. Some (w ∷ ws))
unfolding words_from
words_step [] w after c e = let g = nothing_at_end in absurd cc
words_step (b ∷ tail) w after c e = rw (no_space b tail (w, after) e, c, e, words_from-drop (length tail - length after) tail, drop_taken b tail after (word_takes (word_sound (b ∷ tail) (w, after) e))) refl

comment_is : (b : ℕ) (rest : List ℕ) → begins_comment (b ∷ rest) ≡ true → Reads (b ∷ rest) []
comment_is b [] h = absurd cc
comment_is b (c ∷ rest) h =
    let parts = and_parts (eqb b 45) (eqb c 45) h in
    rw (eqb-true b 45 parts.0, eqb-true c 45 parts.1) comment

pub words_sound : (n : ℕ) (bytes : List ℕ) (ws : List Word) → words_from n bytes ≡ Some ws → Reads (drop n bytes) ws
unfolding words_from
words_sound zero [] ws e = subst (λ (vs : List Word). Reads [] vs) (some_is _ ws e) ended
words_sound (suc n) [] ws e = subst (λ (vs : List Word). Reads [] vs) (some_is _ ws e) ended
words_sound (suc n) (b ∷ rest) ws e = words_sound n rest ws e
words_sound zero (b ∷ rest) ws e =
    elim (chosen (eqb b 32) (words_from 0 rest) _ (Some ws) e) [
      | inl blank ↦ rw (eqb-true b 32 blank.0) (space (words_sound 0 rest ws blank.1))
      | inr other ↦ elim (chosen (begins_comment (b ∷ rest)) (Some []) _ (Some ws) other.1) [
        | inl dashes ↦ subst (λ (vs : List Word). Reads (b ∷ rest) vs) (some_is _ ws dashes.1) (comment_is b rest dashes.0)
        | inr plain ↦
            let a = bind_some (word_at (b ∷ rest)) _ ws plain.1 in
            let s = word_sound (b ∷ rest) a.0 a.1 in
            let d = bind_some (words_from (length rest - length a.0.1) rest) _ ws a.2 in
            let others = rw (drop_taken b rest a.0.1 (word_takes s)) at (words_sound (length rest - length a.0.1) rest d.0 d.1) in
            subst (λ (vs : List Word). Reads (b ∷ rest) vs) (some_is _ ws d.2) (word plain.0 s others)
      ]
    ]

pub words_again : {bytes : List ℕ} {ws : List Word} → Reads bytes ws → words_from 0 bytes ≡ Some ws
unfolding words_from
words_again ended = refl
words_again comment = refl
words_again (space r) = words_again r
words_again (word {bytes = bytes} {rest = rest} {w = w} c s r) = rw (words_step bytes w rest c (word_again s), words_again r) refl
