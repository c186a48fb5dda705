-- Reading physical lines one after the other, as a loop does.
use Rattle.std.proofs.Common.{◌≡◌, ℕ, ◌+◌, List, [], ◌∷◌, ◌++◌, length, Option, Some, None, refl, sym, ap, ◌∙◌, append_assoc}
use Rattle.std.specs.List.{enumerate_from}
use Rattle.std.specs.Str.Lines.{lines}
use Rattle.std.proofs.lemmas.List.{nil_from_length}
use Rattle.occ_text.specs.Words.{Word, LogicalLine}
use Rattle.occ_text.specs.Lines.{indent}
use Rattle.occ_text.specs.Reading.{◌>>=◌, words_from, joined_with, finished, unfinished, logical_lines_end, logical_lines_from}

-- what was read before, and what is still read
abbrev pub after_logical_lines : List LogicalLine → Option (List LogicalLine) → Option (List LogicalLine)
after_logical_lines front read = read >>= λ logical_lines. Some (front ++ logical_lines)

regroup : (front more : List LogicalLine) (read : Option (List LogicalLine)) → after_logical_lines front (read >>= λ logical_lines. Some (more ++ logical_lines)) ≡ after_logical_lines (front ++ more) read
regroup front more (Some logical_lines) = ap (λ (rs : List LogicalLine). Some rs) (sym (append_assoc front more logical_lines))
regroup front more None = refl

module _ (front : List LogicalLine) (pending : Option LogicalLine) (n : ℕ) (rest : List ℕ) (total : Option (List LogicalLine)) (so_far : after_logical_lines front (logical_lines_from pending (enumerate_from n (lines rest))) ≡ total) where
  pub logical_lines_last : length rest ≡ 0 → total ≡ after_logical_lines front (logical_lines_end pending)
  unfolding logical_lines_from
  logical_lines_last h = let e : rest ≡ [] = nil_from_length rest h in sym so_far ∙ rw e refl

  pub logical_lines_go_on : (line after : List ℕ) (ws : List Word) (next : Option LogicalLine) → lines rest ≡ line ∷ lines after → words_from 0 line ≡ Some ws → joined_with pending n (indent line) ws ≡ Some next
      → after_logical_lines (front ++ finished next) (logical_lines_from (unfinished next) (enumerate_from (n + 1) (lines after))) ≡ total
  unfolding logical_lines_from
  logical_lines_go_on line after ws next e h j =
      let one : logical_lines_from pending (enumerate_from n (lines rest)) ≡ (logical_lines_from (unfinished next) (enumerate_from (n + 1) (lines after)) >>= λ logical_lines. Some (finished next ++ logical_lines)) = rw (e, h, j) refl in
      sym (regroup front (finished next) (logical_lines_from (unfinished next) (enumerate_from (n + 1) (lines after)))) ∙ ap (after_logical_lines front) (sym one) ∙ so_far

  pub words_fail : (line after : List ℕ) → lines rest ≡ line ∷ lines after → words_from 0 line ≡ None → total ≡ None
  unfolding logical_lines_from
  words_fail line after e h = sym so_far ∙ rw (e, h) refl

  pub join_fails : (line after : List ℕ) (ws : List Word) → lines rest ≡ line ∷ lines after → words_from 0 line ≡ Some ws → joined_with pending n (indent line) ws ≡ None → total ≡ None
  unfolding logical_lines_from
  join_fails line after ws e h j = sym so_far ∙ rw (e, h, j) refl
