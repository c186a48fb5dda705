-- Rows of cells that are gathered one after another.
use Rattle.std.specs.Prelude.{◌^◌}
use Rattle.std.proofs.Common.{◌≡◌, ◌∙◌, sym, refl, ap, subst, ℕ, ◌+◌, ◌-◌, ◌<◌, ◌≤◌, Bool, IsTrue, Some, None, List, [], ◌∷◌, ◌++◌, length, arith, length-append}
use Rattle.std.proofs.lemmas.List.{append-nil}
use Rattle.occ_term.specs.declared.cell_rows.CellRow.{CellRow}
use Rattle.occ_term.specs.CellRows.{numbers_from, cells_of, cells_in, AreRows, Rise, Kept, Gathered}
use Rattle.occ_term.proofs.RowsOfCells.{cells_grow, cells_push, last_ends, last_fits, length-numbers, rise_grow, rise_push, rows_grow, rows_push}

pub none_added : (xs : List ℕ) (first end : ℕ) → end ≤ first → xs ≡ xs ++ numbers_from first (end - first)
none_added xs first end h =
    let none : end - first ≡ 0 = omega (arith, h) in
    sym (append-nil xs) ∙ ap (λ n. xs ++ numbers_from first n) (sym none)

none_yet : (rows : List CellRow) → cells_in (rows ++ []) ≡ cells_in rows
none_yet rows = ap cells_in (append-nil rows)

longer : (xs ys : List ℕ) (first n : ℕ) → ys ≡ xs ++ numbers_from first n → length xs + n < 2 ^ 64 → length ys < 2 ^ 64
longer xs ys first n is few =
    let long = ap length is ∙ length-append xs (numbers_from first n) in
    let count = length-numbers first n in
    omega (arith, long, count, few)

-- ---- the first row

pub cells_first : (rows : List CellRow) (y : CellRow) → cells_in (rows ++ y ∷ []) ≡ cells_in (rows ++ []) ++ cells_of y
cells_first rows y = cells_push rows y ∙ ap (λ xs. xs ++ cells_of y) (sym (none_yet rows))

pub gathered_first : (rows : List CellRow) (rising : Bool) (y : CellRow) → Gathered rows None rising → y.place ≡ 0 → y.first < y.end → y.end < 2 ^ 64 → length (cells_in (rows ++ [])) + (y.end - y.first) < 2 ^ 64 → Gathered rows (Some y) rising
gathered_first rows rising y h place some fits few =
    let empty : rows ≡ [] = (h.begun refl).0 in
    record {
      kept = record {
        rows_are = subst (λ rs. AreRows 0 (rs ++ y ∷ [])) (sym empty) (place, some, fits, tt, tt);
        rise = λ _. subst (λ rs. Rise 0 (rs ++ y ∷ [])) (sym empty) (omega arith, tt);
      };
      few = longer (cells_in (rows ++ [])) (cells_in (rows ++ y ∷ [])) y.first (y.end - y.first) (cells_first rows y) few;
      begun = λ e. absurd cc;
    }

-- ---- the last row grows

pub cells_grown : (rows : List CellRow) (rising : Bool) (x y : CellRow) (first end : ℕ) → Gathered rows (Some x) rising → x.end ≡ first → y.first ≡ x.first → y.end ≡ end → first < end
    → cells_in (rows ++ y ∷ []) ≡ cells_in (rows ++ x ∷ []) ++ numbers_from first (end - first)
cells_grown rows rising x y first end h touch same ends more =
    let some = (last_fits 0 rows x h.kept.rows_are).0 in
    cells_grow rows x y first end (omega (arith, some)) touch same ends (omega (arith, more))

pub gathered_grown : (rows : List CellRow) (rising : Bool) (x y : CellRow) (first end : ℕ) → Gathered rows (Some x) rising → x.end ≡ first → y.first ≡ x.first → y.end ≡ end → y.place ≡ x.place → first < end → end < 2 ^ 64
    → length (cells_in (rows ++ x ∷ [])) + (end - first) < 2 ^ 64 → Gathered rows (Some y) rising
gathered_grown rows rising x y first end h touch same ends place more fits few =
    let some = (last_fits 0 rows x h.kept.rows_are).0 in
    record {
      kept = record {
        rows_are = rows_grow 0 rows x y h.kept.rows_are place same (omega (arith, some, touch, same, ends, more)) (omega (arith, ends, fits));
        rise = λ up. rise_grow 0 rows x y (h.kept.rise up) same;
      };
      few = longer (cells_in (rows ++ x ∷ [])) (cells_in (rows ++ y ∷ [])) first (end - first) (cells_grown rows rising x y first end h touch same ends more) few;
      begun = λ e. absurd cc;
    }

-- ---- a row behind the last one

pub cells_next : (rows closed : List CellRow) (x y : CellRow) → closed ≡ rows ++ x ∷ [] → cells_in (closed ++ y ∷ []) ≡ cells_in (rows ++ x ∷ []) ++ cells_of y
cells_next rows closed x y e = cells_push closed y ∙ ap (λ rs. cells_in rs ++ cells_of y) e

pub gathered_next : (rows closed : List CellRow) (rising still : Bool) (x y : CellRow) → Gathered rows (Some x) rising → closed ≡ rows ++ x ∷ [] → y.place ≡ x.place + (x.end - x.first) → y.first < y.end → y.end < 2 ^ 64 → (y.first ≡ x.end → ⊥)
    → (IsTrue still → IsTrue rising × (x.end ≤ y.first)) → length (cells_in (rows ++ x ∷ [])) + (y.end - y.first) < 2 ^ 64 → Gathered closed (Some y) still
gathered_next rows closed rising still x y h e place some fits apart rise few =
    record {
      kept = record {
        rows_are = subst (λ rs. AreRows 0 (rs ++ y ∷ [])) (sym e) (rows_push 0 rows x y h.kept.rows_are place some fits apart);
        rise = λ up. (let both = rise up in subst (λ rs. Rise 0 (rs ++ y ∷ [])) (sym e) (rise_push 0 rows x y (h.kept.rise both.0) both.1));
      };
      few = longer (cells_in (rows ++ x ∷ [])) (cells_in (closed ++ y ∷ [])) y.first (y.end - y.first) (cells_next rows closed x y e) few;
      begun = λ e. absurd cc;
    }

-- ---- all of them

pub count_is : (rows : List CellRow) (rising : Bool) (x : CellRow) → Gathered rows (Some x) rising → x.place + (x.end - x.first) ≡ length (cells_in (rows ++ x ∷ []))
count_is rows rising x h = let ends = last_ends 0 rows x h.kept.rows_are in omega (arith, ends)

pub kept_none : (rows : List CellRow) (rising : Bool) → Gathered rows None rising → Kept rows rising × (0 ≡ length (cells_in rows))
kept_none rows rising h =
    let empty : rows ≡ [] = (h.begun refl).0 in
    (subst (λ rs. Kept rs rising) (append-nil rows) h.kept, ap (λ rs. length (cells_in rs)) (sym empty))
