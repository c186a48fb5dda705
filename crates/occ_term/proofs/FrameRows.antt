-- The values of cells in rows.
use Rattle.std.specs.Prelude.{map}
use Rattle.std.proofs.Common.{◌≡◌, ◌∙◌, sym, refl, ap, ℕ, zero, suc, ◌+◌, ◌<◌, List, [], ◌∷◌, ◌++◌, length, get_or, take, ℤ, arith}
use Rattle.std.proofs.lemmas.List.{append_assoc, map-append}
use Rattle.occ_term.specs.Values.{values_from}
use Rattle.occ_term.specs.declared.cell_rows.CellRow.{CellRow}
use Rattle.occ_term.specs.CellRows.{cells_in, cells_of, numbers_from}
use Rattle.occ_term.proofs.RowsOfCells.{numbers-append, one_more}

pub values_of_numbers : (first n : ℕ) (s : ℕ → ℤ) → values_from first n s ≡ map s (numbers_from first n)
values_of_numbers first zero s = refl
values_of_numbers first (suc n) s =
    let next : first + 1 ≡ suc first = omega arith in
    ap (λ k. s first ∷ values_from k n s) next ∙ ap (λ l. s first ∷ l) (values_of_numbers (suc first) n s)

pub values_more : (xs ys zs : List ℤ) (s : ℕ → ℤ) (first i : ℕ) (v : ℤ) → zs ≡ ys ++ v ∷ [] → ys ≡ xs ++ map s (numbers_from first i) → v ≡ s (first + i) → zs ≡ xs ++ map s (numbers_from first (i + 1))
values_more xs ys zs s first i v is before value =
    is ∙ ap (λ l. l ++ v ∷ []) before ∙ append_assoc xs (map s (numbers_from first i)) (v ∷ []) ∙ ap (λ w. xs ++ (map s (numbers_from first i) ++ w ∷ [])) value
    ∙ ap (λ l. xs ++ l) (sym (map-append s (numbers_from first i) (numbers_from (first + i) 1)) ∙ ap (map s) (sym (numbers-append first i 1)))

pub row_more : (rows : List CellRow) (i : ℕ) (d : CellRow) (s : ℕ → ℤ) (xs ys : List ℤ) → i < length rows → xs ≡ map s (cells_in (take i rows)) → ys ≡ xs ++ map s (cells_of (get_or rows i d)) → ys ≡ map s (cells_in (take (i + 1) rows))
row_more rows i d s xs ys lt before is =
    is ∙ ap (λ l. l ++ map s (cells_of (get_or rows i d))) before ∙ sym (map-append s (cells_in (take i rows)) (cells_of (get_or rows i d))) ∙ ap (map s) (sym (one_more rows i d lt))
