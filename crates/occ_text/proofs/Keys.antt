-- The table of reserved words is that of their letters.
use Rattle.std.proofs.Common.{◌≡◌, ℕ, Bool, true, eqb, List, [], ◌∷◌, Some, refl, sym, ap, ◌∙◌, inl, inr}
use Rattle.std.specs.Prelude.{bytes_eq}
use Rattle.std.specs.List.{list_all}
use Rattle.std.specs.Char.{is_ascii_alphabetic}
use Rattle.std.proofs.lemmas.Bool.{and_parts, cond_both}
use Rattle.std.proofs.lemmas.Slice.Eq.{bytes_eq-Decides}
use Rattle.occ_text.specs.declared.token.Key.{Key}
use Rattle.occ_text.specs.declared.token.Key.TheVariants as k
use Rattle.occ_text.specs.Spelling.{letters, begins}
use Rattle.occ_text.specs.Reading.{find_key, groups, group_at, key_of}
use Rattle.occ_text.proofs.Basics.{chosen, some_is}

pub key_again : (key : Key) → key_of (letters key) ≡ Some key
unfolding letters key_of groups
key_again k.After = refl
key_again _ = refl

pub letters_begin : (key : Key) → begins is_ascii_alphabetic (letters key) ≡ true
unfolding letters
letters_begin k.After = refl
letters_begin _ = refl

-- a row of the table has the letters of its word
agrees : List ℕ × Key → Bool
agrees row = bytes_eq (letters row.1) row.0

find_sound : (rows : List (List ℕ × Key)) (v : List ℕ) (key : Key) → list_all agrees rows ≡ true → find_key rows v ≡ Some key → letters key ≡ v
unfolding agrees
find_sound [] v key h e = absurd cc
find_sound (row ∷ rows) v key h e =
    let parts = and_parts (agrees row) (list_all agrees rows) h in
    elim (chosen (bytes_eq row.0 v) (Some row.1) (find_key rows v) (Some key) e) [
      | inl found ↦ ap letters (sym (some_is row.1 key found.1)) ∙ (bytes_eq-Decides (letters row.1) row.0).0 parts.0 ∙ (bytes_eq-Decides row.0 v).0 found.0
      | inr other ↦ find_sound rows v key parts.1 other.1
    ]

group_agrees : (gs : List (ℕ × List (List ℕ × Key))) (b : ℕ) → list_all (λ g. list_all agrees g.1) gs ≡ true → list_all agrees (group_at gs b) ≡ true
group_agrees [] b h = refl
group_agrees (g ∷ gs) b h =
    let parts = and_parts (list_all agrees g.1) (list_all (λ g. list_all agrees g.1) gs) h in
    cond_both (eqb b g.0) g.1 (group_at gs b) (λ rows. list_all agrees rows ≡ true) (λ _. parts.0) (λ _. group_agrees gs b parts.1)

all_agree : list_all (λ g. list_all agrees g.1) groups ≡ true
unfolding groups agrees letters
all_agree = refl

pub key_sound : (v : List ℕ) (key : Key) → key_of v ≡ Some key → letters key ≡ v
unfolding key_of
key_sound [] key e = absurd cc
key_sound (b ∷ v) key e = find_sound (group_at groups b) (b ∷ v) key (group_agrees groups b all_agree) e
