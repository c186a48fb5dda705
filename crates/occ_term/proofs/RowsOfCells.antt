-- Cells that are kept as rows: which place holds a cell, and that no two lists of rows are the same cells.
use Rattle.std.specs.Prelude.{nat_eq, nat_lt, option_map, slice_get, ◌^◌, ⊤, if◌then◌else◌}
use Rattle.std.proofs.Common.{◌≡◌, ◌∙◌, sym, refl, ap, subst, ℕ, zero, suc, ◌+◌, ◌-◌, ◌<◌, ◌≤◌, Bool, true, false, Option, Some, None, List, [], ◌∷◌, ◌++◌, length, get_or, take, arith, length-append}
use Rattle.std.proofs.lemmas.Bool.Decides.{nat_tests}
use Rattle.std.proofs.lemmas.List.{append-nil, append_assoc, take_more}
use Rattle.occ_term.specs.Frames.{place_in}
use Rattle.occ_term.specs.declared.cell_rows.CellRow.{CellRow}
use Rattle.occ_term.specs.CellRows.{numbers_from, cells_of, cells_in, IsApart, AreRows, Rise, Kept, StandsIn}

-- ---- numbers in a row

pub length-numbers : (first n : ℕ) → length (numbers_from first n) ≡ n
length-numbers first zero = refl
length-numbers first (suc n) = ap suc (length-numbers (suc first) n)

pub place_row : (first n c : ℕ) (xs : List ℕ) → first ≤ c → c < first + n → place_in (numbers_from first n ++ xs) c ≡ Some (c - first)
place_row first zero c xs low high = absurd (omega (arith, low, high))
place_row first (suc n) c xs low high = by (λ after. place_row (suc first) n c xs after (omega (arith, high))) (nat_eq first c) refl
  where
    by : (suc first ≤ c → place_in (numbers_from (suc first) n ++ xs) c ≡ Some (c - suc first)) → (b : Bool) → nat_eq first c ≡ b → (if nat_eq first c then Some 0 else option_map suc (place_in (numbers_from (suc first) n ++ xs) c)) ≡ Some (c - first)
    by rest true t =
        let none : 0 ≡ c - first = grind (arith, nat_tests) in
        ap (λ b. if b then Some 0 else option_map suc (place_in (numbers_from (suc first) n ++ xs) c)) t ∙ ap Some none
    by rest false t =
        let after : suc first ≤ c = grind (arith, nat_tests) in
        let more : suc (c - suc first) ≡ c - first = omega (arith, after) in
        ap (λ b. if b then Some 0 else option_map suc (place_in (numbers_from (suc first) n ++ xs) c)) t ∙ ap (option_map suc) (rest after) ∙ ap Some more

plus_none : (o : Option ℕ) → o ≡ option_map (λ m. 0 + m) o
plus_none None = refl
plus_none (Some m) = let same : m ≡ 0 + m = omega arith in ap Some same

plus_one : (n : ℕ) (o : Option ℕ) → option_map suc (option_map (λ m. n + m) o) ≡ option_map (λ m. suc n + m) o
plus_one n None = refl
plus_one n (Some m) = let same : suc (n + m) ≡ suc n + m = omega arith in ap Some same

pub place_past : (first n c : ℕ) (xs : List ℕ) → (first ≤ c → c < first + n → ⊥) → place_in (numbers_from first n ++ xs) c ≡ option_map (λ m. n + m) (place_in xs c)
place_past first zero c xs out = plus_none (place_in xs c)
place_past first (suc n) c xs out =
    let differ : first ≡ c → ⊥ = λ e. out (omega (arith, e)) (omega (arith, e)) in
    let other : nat_eq first c ≡ false = grind (arith, nat_tests) in
    ap (λ b. if b then Some 0 else option_map suc (place_in (numbers_from (suc first) n ++ xs) c)) other
    ∙ ap (option_map suc) (place_past (suc first) n c xs (λ low high. out (omega (arith, low)) (omega (arith, high))))
    ∙ plus_one n (place_in xs c)

-- ---- rows

abbrev pub no_row : CellRow
no_row = record { first = 0; end = 0; place = 0 }

pub cells-append : (rows others : List CellRow) → cells_in (rows ++ others) ≡ cells_in rows ++ cells_in others
cells-append [] others = refl
cells-append (r ∷ rs) others = ap (λ xs. cells_of r ++ xs) (cells-append rs others) ∙ sym (append_assoc (cells_of r) (cells_in rs) (cells_in others))

pub cells-one : (r : CellRow) → cells_in (r ∷ []) ≡ cells_of r
cells-one r = append-nil (cells_of r)

pub row_at : (rows : List CellRow) (i : ℕ) (d e : CellRow) → i < length rows → get_or rows i d ≡ get_or rows i e
row_at [] i d e h = absurd (omega (arith, h))
row_at (r ∷ rs) zero d e h = refl
row_at (r ∷ rs) (suc i) d e h = row_at rs i d e (omega (arith, h))

-- the rows up to one, and it
pub one_more : (rows : List CellRow) (i : ℕ) (d : CellRow) → i < length rows → cells_in (take (i + 1) rows) ≡ cells_in (take i rows) ++ cells_of (get_or rows i d)
one_more rows i d lt = ap cells_in (take_more rows i d lt) ∙ cells-append (take i rows) (get_or rows i d ∷ []) ∙ ap (λ xs. cells_in (take i rows) ++ xs) (cells-one (get_or rows i d))

length-cells : (r : CellRow) (rs : List CellRow) → length (cells_in (r ∷ rs)) ≡ (r.end - r.first) + length (cells_in rs)
length-cells r rs = length-append (cells_of r) (cells_in rs) ∙ ap (λ n. n + length (cells_in rs)) (length-numbers r.first (r.end - r.first))

-- where a row stands
pub place_is : (before : ℕ) (rows : List CellRow) (i : ℕ) (d : CellRow) → AreRows before rows → i < length rows → (get_or rows i d).place ≡ before + length (cells_in (take i rows))
place_is before [] i d h lt = absurd (omega (arith, lt))
place_is before (r ∷ rs) zero d h lt = let is = h.0 in omega (arith, is)
place_is before (r ∷ rs) (suc i) d h lt =
    let rest = place_is (before + (r.end - r.first)) rs i d h.4 (omega (arith, lt)) in
    let long = length-cells r (take i rs) in
    omega (arith, rest, long)

pub row_fits : (before : ℕ) (rows : List CellRow) (i : ℕ) (d : CellRow) → AreRows before rows → i < length rows → ((get_or rows i d).first < (get_or rows i d).end) × ((get_or rows i d).end < 2 ^ 64)
row_fits before [] i d h lt = absurd (omega (arith, lt))
row_fits before (r ∷ rs) zero d h lt = (h.1, h.2)
row_fits before (r ∷ rs) (suc i) d h lt = row_fits (before + (r.end - r.first)) rs i d h.4 (omega (arith, lt))

-- and all of it lies within the list
pub row_within : (before : ℕ) (rows : List CellRow) (i : ℕ) (d : CellRow) → AreRows before rows → i < length rows → (get_or rows i d).place + ((get_or rows i d).end - (get_or rows i d).first) ≤ before + length (cells_in rows)
row_within before [] i d h lt = absurd (omega (arith, lt))
row_within before (r ∷ rs) zero d h lt = let is = h.0 in let long = length-cells r rs in omega (arith, is, long)
row_within before (r ∷ rs) (suc i) d h lt =
    let rest = row_within (before + (r.end - r.first)) rs i d h.4 (omega (arith, lt)) in
    let long = length-cells r rs in
    omega (arith, rest, long)

abbrev Without : ℕ → CellRow → Type 0
Without c r = r.first ≤ c → c < r.end → ⊥

some_plus : (n m : ℕ) (o : Option ℕ) → o ≡ Some m → option_map (λ k. n + k) o ≡ Some (n + m)
some_plus n m o e = ap (option_map (λ k. n + k)) e

past_row : (r : CellRow) (c : ℕ) → Without c r → r.first ≤ c → c < r.first + (r.end - r.first) → ⊥
past_row r c out low high = out low (omega (arith, low, high))

-- the place in the first row that holds the cell
pub place_there : (before : ℕ) (rows : List CellRow) (i c : ℕ) (d : CellRow) → AreRows before rows → i < length rows → (get_or rows i d).first ≤ c → c < (get_or rows i d).end
    → ((j : ℕ) → j < i → Without c (get_or rows j d)) → place_in (cells_in rows) c ≡ Some (length (cells_in (take i rows)) + (c - (get_or rows i d).first))
place_there before [] i c d h lt low high none = absurd (omega (arith, lt))
place_there before (r ∷ rs) zero c d h lt low high none =
    let same : c - r.first ≡ 0 + (c - r.first) = omega arith in
    place_row r.first (r.end - r.first) c (cells_in rs) low (omega (arith, low, high)) ∙ ap Some same
place_there before (r ∷ rs) (suc i) c d h lt low high none =
    let long = length-cells r (take i rs) in
    let same : (r.end - r.first) + (length (cells_in (take i rs)) + (c - (get_or rs i d).first)) ≡ length (cells_in (r ∷ take i rs)) + (c - (get_or rs i d).first) = omega (arith, long) in
    place_past r.first (r.end - r.first) c (cells_in rs) (past_row r c (none 0 (omega arith)))
    ∙ some_plus (r.end - r.first) (length (cells_in (take i rs)) + (c - (get_or rs i d).first)) (place_in (cells_in rs) c)
    (place_there (before + (r.end - r.first)) rs i c d h.4 (omega (arith, lt)) low high (λ j k. none (suc j) (omega (arith, k))))
    ∙ ap Some same

pub place_nowhere : (rows : List CellRow) (c : ℕ) (d : CellRow) → ((j : ℕ) → j < length rows → Without c (get_or rows j d)) → place_in (cells_in rows) c ≡ None
place_nowhere [] c d none = refl
place_nowhere (r ∷ rs) c d none =
    place_past r.first (r.end - r.first) c (cells_in rs) (past_row r c (none 0 (omega arith)))
    ∙ ap (option_map (λ k. (r.end - r.first) + k)) (place_nowhere rs c d (λ j k. none (suc j) (omega (arith, k))))

-- the same as the row itself says it
pub first_holds : (rows : List CellRow) (i c : ℕ) (d : CellRow) → AreRows 0 rows → i < length rows → (get_or rows i d).first ≤ c → c < (get_or rows i d).end
    → ((j : ℕ) → j < i → Without c (get_or rows j d)) → place_in (cells_in rows) c ≡ Some ((get_or rows i d).place + (c - (get_or rows i d).first))
first_holds rows i c d h lt low high none =
    let is = place_is 0 rows i d h lt in
    let same : length (cells_in (take i rows)) + (c - (get_or rows i d).first) ≡ (get_or rows i d).place + (c - (get_or rows i d).first) = omega (arith, is) in
    place_there 0 rows i c d h lt low high none ∙ ap Some same

-- ---- rows that rise

rise_later : (before end : ℕ) (rows : List CellRow) (j : ℕ) (d : CellRow) → AreRows before rows → Rise end rows → j < length rows → end ≤ (get_or rows j d).first
rise_later before end [] j d h up lt = absurd (omega (arith, lt))
rise_later before end (r ∷ rs) zero d h up lt = up.0
rise_later before end (r ∷ rs) (suc j) d h up lt =
    let next = rise_later (before + (r.end - r.first)) r.end rs j d h.4 up.1 (omega (arith, lt)) in
    let low = up.0 in
    let some = h.1 in
    omega (arith, next, low, some)

pub rise_between : (before end : ℕ) (rows : List CellRow) (i j : ℕ) (d : CellRow) → AreRows before rows → Rise end rows → i < j → j < length rows → (get_or rows i d).end ≤ (get_or rows j d).first
rise_between before end [] i j d h up lt within = absurd (omega (arith, within))
rise_between before end (r ∷ rs) i zero d h up lt within = absurd (omega (arith, lt))
rise_between before end (r ∷ rs) zero (suc j) d h up lt within = rise_later (before + (r.end - r.first)) r.end rs j d h.4 up.1 (omega (arith, within))
rise_between before end (r ∷ rs) (suc i) (suc j) d h up lt within = rise_between (before + (r.end - r.first)) r.end rs i j d h.4 up.1 (omega (arith, lt)) (omega (arith, within))

none_before : (rows : List CellRow) (i c : ℕ) (d : CellRow) → AreRows 0 rows → Rise 0 rows → i < length rows → (get_or rows i d).first ≤ c → (j : ℕ) → j < i → Without c (get_or rows j d)
none_before rows i c d h up lt low j before begun short =
    let ends = rise_between 0 0 rows j i d h up before lt in
    omega (arith, ends, low, short)

pub stands : (rows : List CellRow) (i c : ℕ) (d : CellRow) (r : CellRow) → AreRows 0 rows → Rise 0 rows → i < length rows → get_or rows i d ≡ r → r.first ≤ c → c < r.end → StandsIn rows c r
stands rows i c d r h up lt is low high =
    subst (StandsIn rows c) is
    record {
      begun = subst (λ (x : CellRow). x.first ≤ c) (sym is) low;
      before_end = subst (λ (x : CellRow). c < x.end) (sym is) high;
      stands = λ k from to. first_holds rows i k d h lt from to (none_before rows i k d h up lt from);
      within = (let w = row_within 0 rows i d h lt in omega (arith, w));
    }

-- no row holds a cell that is past all before one place and before all from there on
pub none_holds : (rows : List CellRow) (c low high : ℕ) (d : CellRow) → high ≤ low → ((k : ℕ) → k < low → (get_or rows k d).end ≤ c) → ((k : ℕ) → high ≤ k → k < length rows → c < (get_or rows k d).first) → place_in (cells_in rows) c ≡ None
none_holds rows c low high d meet below above = place_nowhere rows c d (λ j lt. neither j lt (nat_lt j low) refl)
  where
    neither : (j : ℕ) → j < length rows → (b : Bool) → nat_lt j low ≡ b → Without c (get_or rows j d)
    neither j lt true t begun short =
        let less : j < low = grind (arith, nat_tests) in
        let past = below j less in
        omega (arith, past, short)
    neither j lt false t begun short =
        let more : high ≤ j = grind (arith, nat_tests) in
        let over = above j more lt in
        omega (arith, over, begun)

-- ---- rows that are gathered

-- a row is added behind the last one
pub rows_push : (before : ℕ) (rows : List CellRow) (x y : CellRow) → AreRows before (rows ++ x ∷ []) → y.place ≡ x.place + (x.end - x.first) → y.first < y.end → y.end < 2 ^ 64 → (y.first ≡ x.end → ⊥) → AreRows before ((rows ++ x ∷ []) ++ y ∷ [])
rows_push before [] x y h place some fits apart =
    let is = h.0 in
    (h.0, h.1, h.2, apart, (omega (arith, is, place), some, fits, tt, tt))
rows_push before (r ∷ []) x y h place some fits apart = (h.0, h.1, h.2, h.3, rows_push (before + (r.end - r.first)) [] x y h.4 place some fits apart)
rows_push before (r ∷ s ∷ rs) x y h place some fits apart = (h.0, h.1, h.2, h.3, rows_push (before + (r.end - r.first)) (s ∷ rs) x y h.4 place some fits apart)

pub rise_push : (end : ℕ) (rows : List CellRow) (x y : CellRow) → Rise end (rows ++ x ∷ []) → x.end ≤ y.first → Rise end ((rows ++ x ∷ []) ++ y ∷ [])
rise_push end [] x y h after = (h.0, (after, tt))
rise_push end (r ∷ rs) x y h after = (h.0, rise_push r.end rs x y h.1 after)

-- the last row grows
pub rows_grow : (before : ℕ) (rows : List CellRow) (x y : CellRow) → AreRows before (rows ++ x ∷ []) → y.place ≡ x.place → y.first ≡ x.first → y.first < y.end → y.end < 2 ^ 64 → AreRows before (rows ++ y ∷ [])
rows_grow before [] x y h place first some fits = (place ∙ h.0, some, fits, tt, tt)
rows_grow before (r ∷ []) x y h place first some fits =
    (h.0, h.1, h.2, (λ e. h.3 (sym first ∙ e)), rows_grow (before + (r.end - r.first)) [] x y h.4 place first some fits)
rows_grow before (r ∷ s ∷ rs) x y h place first some fits =
    (h.0, h.1, h.2, h.3, rows_grow (before + (r.end - r.first)) (s ∷ rs) x y h.4 place first some fits)

pub rise_grow : (end : ℕ) (rows : List CellRow) (x y : CellRow) → Rise end (rows ++ x ∷ []) → y.first ≡ x.first → Rise end (rows ++ y ∷ [])
rise_grow end [] x y h first = let low = h.0 in (omega (arith, low, first), tt)
rise_grow end (r ∷ rs) x y h first = (h.0, rise_grow r.end rs x y h.1 first)

pub last_fits : (before : ℕ) (rows : List CellRow) (x : CellRow) → AreRows before (rows ++ x ∷ []) → (x.first < x.end) × (x.end < 2 ^ 64)
last_fits before [] x h = (h.1, h.2)
last_fits before (r ∷ rs) x h = last_fits (before + (r.end - r.first)) rs x h.4

-- where the last row ends
pub last_ends : (before : ℕ) (rows : List CellRow) (x : CellRow) → AreRows before (rows ++ x ∷ []) → x.place + (x.end - x.first) ≡ before + length (cells_in (rows ++ x ∷ []))
last_ends before [] x h = let is = h.0 in let long = length-cells x [] in omega (arith, is, long)
last_ends before (r ∷ rs) x h =
    let rest = last_ends (before + (r.end - r.first)) rs x h.4 in
    let long = length-cells r (rs ++ x ∷ []) in
    omega (arith, rest, long)

pub numbers-append : (first n m : ℕ) → numbers_from first (n + m) ≡ numbers_from first n ++ numbers_from (first + n) m
numbers-append first zero m =
    let same : first ≡ first + 0 = omega arith in
    let long : 0 + m ≡ m = omega arith in
    ap (numbers_from first) long ∙ ap (λ k. numbers_from k m) same
numbers-append first (suc n) m =
    let same : suc first + n ≡ first + suc n = omega arith in
    let long : suc n + m ≡ suc (n + m) = omega arith in
    ap (numbers_from first) long ∙ ap (λ xs. first ∷ xs) (numbers-append (suc first) n m) ∙ ap (λ k. first ∷ (numbers_from (suc first) n ++ numbers_from k m)) same

pub cells_grow : (rows : List CellRow) (x y : CellRow) (first end : ℕ) → x.first ≤ x.end → x.end ≡ first → y.first ≡ x.first → y.end ≡ end → first ≤ end → cells_in (rows ++ y ∷ []) ≡ cells_in (rows ++ x ∷ []) ++ numbers_from first (end - first)
cells_grow rows x y first end some touch same ends more =
    let long : y.end - y.first ≡ (x.end - x.first) + (end - first) = omega (arith, some, touch, same, ends, more) in
    let start : x.first + (x.end - x.first) ≡ first = omega (arith, some, touch) in
    let one : cells_of y ≡ cells_of x ++ numbers_from first (end - first) =
    ap (λ n. numbers_from n (y.end - y.first)) same ∙ ap (numbers_from x.first) long ∙ numbers-append x.first (x.end - x.first) (end - first)
    ∙ ap (λ n. cells_of x ++ numbers_from n (end - first)) start in
    cells-append rows (y ∷ []) ∙ ap (λ xs. cells_in rows ++ xs) (cells-one y ∙ one) ∙ sym (append_assoc (cells_in rows) (cells_of x) (numbers_from first (end - first)))
    ∙ ap (λ xs. xs ++ numbers_from first (end - first)) (ap (λ xs. cells_in rows ++ xs) (sym (cells-one x)) ∙ sym (cells-append rows (x ∷ [])))

pub cells_push : (rows : List CellRow) (y : CellRow) → cells_in (rows ++ y ∷ []) ≡ cells_in rows ++ cells_of y
cells_push rows y = cells-append rows (y ∷ []) ∙ ap (λ xs. cells_in rows ++ xs) (cells-one y)

-- ---- the same cells are the same rows

abbrev NotFirst : ℕ → List ℕ → Type 0
NotFirst c [] = ⊤
NotFirst c (x ∷ xs) = x ≡ c → ⊥

abbrev head_of : List ℕ → ℕ
head_of [] = 0
head_of (x ∷ xs) = x

abbrev tail_of : List ℕ → List ℕ
tail_of [] = []
tail_of (x ∷ xs) = xs

starts_with : (c x : ℕ) (xs ys : List ℕ) → xs ≡ x ∷ ys → x ≡ c → NotFirst c xs → ⊥
starts_with c x xs ys e same none = subst (NotFirst c) e none same

runs : (first n m : ℕ) (xs ys : List ℕ) → numbers_from first n ++ xs ≡ numbers_from first m ++ ys → NotFirst (first + n) xs → NotFirst (first + m) ys → (n ≡ m) × (xs ≡ ys)
runs first zero zero xs ys e a b = (refl, e)
runs first zero (suc m) xs ys e a b = absurd (starts_with (first + 0) first xs (numbers_from (suc first) m ++ ys) e (omega arith) a)
runs first (suc n) zero xs ys e a b = absurd (starts_with (first + 0) first ys (numbers_from (suc first) n ++ xs) (sym e) (omega arith) b)
runs first (suc n) (suc m) xs ys e a b =
    let left : first + suc n ≡ suc first + n = omega arith in
    let right : first + suc m ≡ suc first + m = omega arith in
    let (same, rest) = runs (suc first) n m xs ys (ap tail_of e) (subst (λ k. NotFirst k xs) left a) (subst (λ k. NotFirst k ys) right b) in
    (ap suc same, rest)

some_numbers : (r : CellRow) → r.first < r.end → numbers_from r.first (r.end - r.first) ≡ r.first ∷ numbers_from (suc r.first) (r.end - r.first - 1)
some_numbers r h = let more : r.end - r.first ≡ suc (r.end - r.first - 1) = omega (arith, h) in ap (numbers_from r.first) more

goes_on : (before end : ℕ) (rows : List CellRow) → AreRows before rows → IsApart end rows → NotFirst end (cells_in rows)
goes_on before end [] h apart = tt
goes_on before end (r ∷ rs) h apart = subst (λ xs. NotFirst end (xs ++ cells_in rs)) (sym (some_numbers r h.1)) apart

same_row : (r s : CellRow) → r.first ≡ s.first → r.end ≡ s.end → r.place ≡ s.place → r ≡ s
same_row r s first end place =
    let a : r ≡ record { first = s.first; end = r.end; place = r.place } = ap (λ n. record { first = n; end = r.end; place = r.place }) first in
    let b : record { first = s.first; end = r.end; place = r.place } ≡ record { first = s.first; end = s.end; place = r.place } = ap (λ n. record { first = s.first; end = n; place = r.place }) end in
    a ∙ b ∙ ap (λ n. record { first = s.first; end = s.end; place = n }) place

no_cells : (r : CellRow) (rs : List CellRow) → r.first < r.end → cells_in (r ∷ rs) ≡ [] → ⊥
no_cells r rs some e = let long = length-cells r rs in let none : length (cells_in (r ∷ rs)) ≡ 0 = ap length e in omega (arith, some, long, none)

pub same_cells : (before : ℕ) (rows others : List CellRow) → AreRows before rows → AreRows before others → cells_in rows ≡ cells_in others → rows ≡ others
same_cells before [] [] h k e = refl
same_cells before [] (s ∷ ss) h k e = absurd (no_cells s ss k.1 (sym e))
same_cells before (r ∷ rs) [] h k e = absurd (no_cells r rs h.1 e)
same_cells before (r ∷ rs) (s ∷ ss) h k e =
    let first : r.first ≡ s.first = ap head_of (ap (λ xs. xs ++ cells_in rs) (sym (some_numbers r h.1)) ∙ e ∙ ap (λ xs. xs ++ cells_in ss) (some_numbers s k.1)) in
    let some = h.1 in
    let more = k.1 in
    let ends : s.first + (s.end - s.first) ≡ s.end = omega (arith, more) in
    let both : numbers_from s.first (r.end - r.first) ++ cells_in rs ≡ numbers_from s.first (s.end - s.first) ++ cells_in ss = ap (λ n. numbers_from n (r.end - r.first) ++ cells_in rs) (sym first) ∙ e in
    let stop : r.end ≡ s.first + (r.end - r.first) = omega (arith, some, first) in
    let (long, rest) = runs s.first (r.end - r.first) (s.end - s.first) (cells_in rs) (cells_in ss) both
    (subst (λ n. NotFirst n (cells_in rs)) stop (goes_on (before + (r.end - r.first)) r.end rs h.4 h.3)) (subst (λ n. NotFirst n (cells_in ss)) (sym ends) (goes_on (before + (s.end - s.first)) s.end ss k.4 k.3)) in
    let end : r.end ≡ s.end = omega (arith, long, first, some, more) in
    let row : r ≡ s = same_row r s first end (h.0 ∙ sym k.0) in
    let next : AreRows (before + (r.end - r.first)) ss = subst (λ n. AreRows (before + n) ss) (sym long) k.4 in
    ap (λ l. r ∷ l) (same_cells (before + (r.end - r.first)) rs ss h.4 next rest) ∙ ap (λ x. x ∷ ss) row

-- ---- how great cells are

below_in_row : (first n b k : ℕ) (xs : List ℕ) → first + n ≤ b → 0 < b → ((i : ℕ) → get_or xs i 0 < b) → get_or (numbers_from first n ++ xs) k 0 < b
below_in_row first zero b k xs h some all = all k
below_in_row first (suc n) b zero xs h some all = omega (arith, h)
below_in_row first (suc n) b (suc k) xs h some all = below_in_row (suc first) n b k xs (omega (arith, h)) some all

pub cells_below : (before : ℕ) (rows : List CellRow) (k : ℕ) → AreRows before rows → get_or (cells_in rows) k 0 < 2 ^ 64
cells_below before [] k h = omega arith
cells_below before (r ∷ rs) k h =
    let some = h.1 in
    let fits = h.2 in
    below_in_row r.first (r.end - r.first) (2 ^ 64) k (cells_in rs) (omega (arith, some, fits)) (omega arith) (λ i. cells_below (before + (r.end - r.first)) rs i h.4)

-- ---- halving the rows

-- where one row ends at or before a cell, so do those before it; where one begins behind it, so do those after it
pub below_next : (rows : List CellRow) (middle cell : ℕ) → AreRows 0 rows → Rise 0 rows → middle < length rows → (get_or rows middle no_row).end ≤ cell → (k : ℕ) (d : CellRow) → k < middle + 1 → (get_or rows k d).end ≤ cell
below_next rows middle cell h up lt ends k d less = by (nat_lt k middle) refl
  where
    here : get_or rows middle d ≡ get_or rows middle no_row
    here = row_at rows middle d no_row lt

    by : (b : Bool) → nat_lt k middle ≡ b → (get_or rows k d).end ≤ cell
    by true t =
        let before : k < middle = grind (arith, nat_tests) in
        let next = rise_between 0 0 rows k middle d h up before lt in
        let some = (row_fits 0 rows middle d h lt).0 in
        let end : (get_or rows middle d).end ≤ cell = subst (λ (r : CellRow). r.end ≤ cell) (sym here) ends in
        omega (arith, next, some, end)
    by false t =
        let same : middle ≡ k = grind (arith, nat_tests) in
        subst (λ n. (get_or rows n d).end ≤ cell) same (subst (λ (r : CellRow). r.end ≤ cell) (sym here) ends)

pub above_next : (rows : List CellRow) (middle cell : ℕ) → AreRows 0 rows → Rise 0 rows → middle < length rows → cell < (get_or rows middle no_row).first → (k : ℕ) (d : CellRow) → middle ≤ k → k < length rows → cell < (get_or rows k d).first
above_next rows middle cell h up lt begins k d more within = by (nat_lt middle k) refl
  where
    here : get_or rows middle d ≡ get_or rows middle no_row
    here = row_at rows middle d no_row lt

    begun : cell < (get_or rows middle d).first
    begun = subst (λ (r : CellRow). cell < r.first) (sym here) begins

    by : (b : Bool) → nat_lt middle k ≡ b → cell < (get_or rows k d).first
    by true t =
        let after : middle < k = grind (arith, nat_tests) in
        let next = rise_between 0 0 rows middle k d h up after within in
        let some = (row_fits 0 rows middle d h lt).0 in
        omega (arith, next, some, begun)
    by false t =
        let same : middle ≡ k = grind (arith, nat_tests, more) in
        subst (λ n. cell < (get_or rows n d).first) same begun

pub got_first : (rows : List CellRow) (r : CellRow) → Some r ≡ slice_get rows 0 → (0 < length rows) × (get_or rows 0 no_row ≡ r)
got_first [] r e = absurd cc
got_first (x ∷ xs) r e = (omega arith, cc)

-- ---- two lists of rows

pub same_kept : (rows others : List CellRow) (rising still : Bool) → Kept rows rising → Kept others still → cells_in rows ≡ cells_in others → rows ≡ others
same_kept rows others rising still h k e = same_cells 0 rows others h.rows_are k.rows_are e
