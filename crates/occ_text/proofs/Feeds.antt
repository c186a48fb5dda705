-- The first of the lines of a text.
use Rattle.std.proofs.Common.{◌≡◌, ◌<◌, ℕ, ◌+◌, ◌-◌, Bool, true, false, eqb, ltb, cond, List, [], ◌∷◌, length, take, drop, Some, None, refl, sym, ap, subst, ◌∙◌, arith, inl, inr}
use Rattle.std.specs.Prelude.{position}
use Rattle.std.specs.List.{onto_first, slice_split, position_or_len, before_first, after_first}
use Rattle.std.specs.Str.Lines.{lines, lines_of_parts, strip_carriage_return}
use Rattle.std.proofs.lemmas.Bool.{ltb-true, ltb-false, ne_eqb}
use Rattle.std.proofs.lemmas.List.{take_rest, drop_all}
use Rattle.std.proofs.lemmas.List.Splits.{slice_split_first, slice_split_none}
use Rattle.std.proofs.lemmas.List.Sums.{fails_before_first}
use Rattle.occ_text.proofs.Basics.{chosen, some_is}

abbrev feed : ℕ → Bool
feed b = eqb b 10

-- there is at least one part
first_part : (bytes : List ℕ) → (x : List ℕ) × (more : List (List ℕ)) × (slice_split feed bytes ≡ x ∷ more)
first_part [] = ([], [], refl)
first_part (b ∷ bytes) = go (feed b) (slice_split feed bytes)
  where
    go : (t : Bool) (parts : List (List ℕ)) → (x : List ℕ) × (more : List (List ℕ)) × (cond t ([] ∷ parts) (onto_first b parts) ≡ x ∷ more)
    go true parts = ([], parts, refl)
    go false [] = (b ∷ [], [], refl)
    go false (x ∷ more) = (b ∷ x, more, refl)

first_of_many : (line : List ℕ) (parts : List (List ℕ)) (x : List ℕ) (more : List (List ℕ)) → parts ≡ x ∷ more → lines_of_parts (line ∷ parts) ≡ strip_carriage_return line ∷ lines_of_parts parts
first_of_many line parts x more e = rw e refl

pub line_before_feed : (bytes line : List ℕ) (n : ℕ) → Some n ≡ position feed bytes → line ≡ strip_carriage_return (take n bytes) → lines bytes ≡ line ∷ lines (take (length bytes - (n + 1)) (drop (n + 1) bytes))
line_before_feed bytes line n found e =
    elim (chosen (ltb (position_or_len feed bytes) (length bytes)) (Some (position_or_len feed bytes)) None (Some n) (sym found)) [
      | inl at ↦
          let rest = first_part (after_first feed bytes) in
          let cut = ap lines_of_parts (slice_split_first feed bytes 0 (ltb-true _ _ at.0)) ∙ first_of_many (before_first feed bytes) (slice_split feed (after_first feed bytes)) rest.0 rest.1 rest.2 in
          let here = subst (λ (k : ℕ). lines bytes ≡ strip_carriage_return (take k bytes) ∷ lines (drop (k + 1) bytes)) (some_is _ n at.1) cut in
          rw (e, take_rest bytes (n + 1)) here
      | inr none ↦ absurd cc
    ]

pub line_without_feed : (bytes : List ℕ) → 0 < length bytes → None ≡ position feed bytes → lines bytes ≡ bytes ∷ lines (take (length bytes - length bytes) (drop (length bytes) bytes))
line_without_feed bytes full none =
    elim (chosen (ltb (position_or_len feed bytes) (length bytes)) (Some (position_or_len feed bytes)) None None (sym none)) [
      | inl at ↦ absurd cc
      | inr past ↦
          let beyond = ltb-false _ _ past.0 in
          let whole = slice_split_none feed bytes (λ k d lt. fails_before_first feed bytes k d (omega (arith, beyond))) in
          let some : eqb (length bytes) 0 ≡ false = ne_eqb (length bytes) 0 (omega arith) in
          let cut : lines bytes ≡ bytes ∷ [] = ap lines_of_parts whole ∙ rw some refl in
          let nothing : take (length bytes - length bytes) (drop (length bytes) bytes) ≡ [] = take_rest bytes (length bytes) ∙ drop_all (length bytes) bytes (omega arith) in
          cut ∙ ap (λ (b : List ℕ). bytes ∷ lines b) (sym nothing)
    ]
