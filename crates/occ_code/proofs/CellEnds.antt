-- The cells of a process: rows of cells that are sorted, and the numbers in them.
use Rattle.std.specs.Prelude.{nat_eq, nat_le, nat_lt, max, take, ◌&&◌, ◌||◌, if◌then◌else◌}
use Rattle.std.specs.List.{All}
use Rattle.std.specs.List.Sorted.{IsNonDecreasingBy, IsPermutation}
use Rattle.std.proofs.Common.{◌≡◌, ℕ, zero, suc, ◌+◌, ◌-◌, ◌<◌, ◌≤◌, Bool, true, false, IsTrue, List, [], ◌∷◌, ◌++◌, drop, get_or, length, refl, sym, ap, ◌∙◌, subst, add-zero, arith, length-append}
use Rattle.std.proofs.Math.Seq.{drop-cons}
use Rattle.std.proofs.lemmas.Bool.Decides.{nat_tests}
use Rattle.std.proofs.lemmas.List.Folds.{list_any-append, list_any_more}
use Rattle.std.proofs.lemmas.List.Sorted.{list_any-IsPermutation}
use Rattle.std.proofs.lemmas.List.Elements.{All-append, All-cons}
use Rattle.occ_usage.specs.Noted.{between, use_of, uses_in}
use Rattle.occ_term.specs.Frames.{is_held}
use Rattle.occ_usage.specs.declared.noted.Use.{Use}
use Rattle.occ_usage.specs.declared.noted.Kind.{Kind}
use Rattle.occ_usage.specs.declared.noted.Kind.TheVariants.{Read, Write, Input, Output}
use Rattle.occ_code.proofs.Emitting.{drop_all}
use Rattle.occ_machine.specs.SameStop.{AreAbove, IsRising, Lists}
use Rattle.occ_code.specs.Within.{AreWithin}
use Rattle.occ_code.specs.declared.cells.Row.{Row}
use Rattle.occ_code.specs.Cells.{is_counted, counted, covers, end_of, furthest, in_rows, AddsRow, Gathered}
use Rattle.occ_term.specs.CellRows.{numbers_from}
use Rattle.occ_term.specs.UnfoldedProgram.{most_cells}

-- ---- what is covered is used

or_after : (s r w : Bool) → ((s || r) || w) ≡ (s || (r || w))
or_after true r w = refl
or_after false r w = refl

or_within : (s r w : Bool) → (r || (s || w)) ≡ (s || (r || w))
or_within true true w = refl
or_within true false w = refl
or_within false r w = refl

module _ (us : List Use) (first end : ℕ) (c : ℕ) where
  covers_one : (kind : Kind) (writes_only : Bool) → covers writes_only us c ≡ counted writes_only (uses_in us) c
      → ((is_counted writes_only kind && between first end c) || covers writes_only us c) ≡ counted writes_only (record { reads = λ x. (use_of kind (between first end)).reads x || (uses_in us).reads x; writes = λ x. (use_of kind (between first end)).writes x || (uses_in us).writes x; ins = λ x. (use_of kind (between first end)).ins x || (uses_in us).ins x; outs = λ x. (use_of kind (between first end)).outs x || (uses_in us).outs x }) c
  covers_one Read true h = h
  covers_one Read false h = ap (λ b. between first end c || b) h ∙ sym (or_after (between first end c) ((uses_in us).reads c) ((uses_in us).writes c))
  covers_one Write true h = ap (λ b. between first end c || b) h
  covers_one Write false h = ap (λ b. between first end c || b) h ∙ sym (or_within (between first end c) ((uses_in us).reads c) ((uses_in us).writes c))
  covers_one Input true h = h
  covers_one Input false h = h
  covers_one Output true h = h
  covers_one Output false h = h

pub covers_all : (us : List Use) (writes_only : Bool) (c : ℕ) → covers writes_only us c ≡ counted writes_only (uses_in us) c
covers_all [] true c = refl
covers_all [] false c = refl
covers_all (u ∷ us) writes_only c = covers_one us u.first u.end c u.kind writes_only (covers_all us writes_only c)

-- ---- numbers that rise

held-append : (xs ys : List ℕ) (c : ℕ) → is_held (xs ++ ys) c ≡ (is_held xs c || is_held ys c)
held-append [] ys c = refl
held-append (x ∷ xs) ys c = ap (λ b. nat_eq x c || b) (held-append xs ys c) ∙ sym (or_after (nat_eq x c) (is_held xs c) (is_held ys c))

or_first : (a b : Bool) → IsTrue a → IsTrue (a || b)
or_first true b h = refl
or_first false b h = absurd cc

or_second : (a b : Bool) → IsTrue b → IsTrue (a || b)
or_second true b h = refl
or_second false b h = h

same_number : (x : ℕ) → nat_eq x x ≡ true
same_number x = grind (arith, nat_tests)

above-append : (x n : ℕ) (xs : List ℕ) → AreAbove x xs → x < n → ((c : ℕ) → IsTrue (is_held xs c) → c < n) → AreAbove x (xs ++ n ∷ [])
above-append x n [] h m all = (m, tt)
above-append x n (y ∷ ys) h m all = (h.0, above-append y n ys h.1 (all y (ap (λ b. b || is_held ys y) (same_number y))) (λ c k. all c (or_second (nat_eq y c) (is_held ys c) k)))

rising-append : (n : ℕ) (xs : List ℕ) → IsRising xs → ((c : ℕ) → IsTrue (is_held xs c) → c < n) → IsRising (xs ++ n ∷ [])
rising-append n [] h m = tt
rising-append n (x ∷ xs) h m = above-append x n xs h (m x (ap (λ b. b || is_held xs x) (same_number x))) (λ c k. m c (or_second (nat_eq x c) (is_held xs c) k))

-- ---- lists

between_true : (first end c : ℕ) → first ≤ c → c < end → IsTrue (between first end c)
between_true first end c h k = grind (arith, nat_tests)

empty_row : (first end c : ℕ) → end ≤ first → between first end c ≡ false
empty_row first end c h = grind (arith, nat_tests)

append-nil : (xs : List ℕ) → xs ++ [] ≡ xs
append-nil [] = refl
append-nil (x ∷ xs) = ap (λ l. x ∷ l) (append-nil xs)

append-assoc : (xs ys zs : List ℕ) → (xs ++ ys) ++ zs ≡ xs ++ (ys ++ zs)
append-assoc [] ys zs = refl
append-assoc (x ∷ xs) ys zs = ap (λ l. x ∷ l) (append-assoc xs ys zs)

item_at : (rows : List Row) (i : ℕ) (d e : Row) → i < length rows → get_or rows i d ≡ get_or rows i e
item_at [] i d e h = absurd (omega (arith, h))
item_at (r ∷ rs) zero d e h = refl
item_at (r ∷ rs) (suc i) d e h = item_at rs i d e (omega (arith, h))

take_all : (i : ℕ) (rows : List Row) → length rows ≤ i → take i rows ≡ rows
take_all zero [] h = refl
take_all (suc i) [] h = refl
take_all zero (r ∷ rs) h = absurd (omega (arith, h))
take_all (suc i) (r ∷ rs) h = ap (λ l. r ∷ l) (take_all i rs (omega (arith, h)))

-- ---- numbers in a row

held_numbers : (first n c : ℕ) → is_held (numbers_from first n) c ≡ between first (first + n) c
held_numbers first zero c = grind (arith, nat_tests)
held_numbers first (suc n) c = ap (λ b. nat_eq first c || b) (held_numbers (suc first) n c) ∙ (grind (arith, nat_tests))

numbers_more : (first n : ℕ) → numbers_from first (suc n) ≡ numbers_from first n ++ (first + n) ∷ []
numbers_more first zero = ap (λ m. m ∷ []) (sym (add-zero first))
numbers_more first (suc n) =
    let same : suc first + n ≡ first + suc n = omega arith in
    ap (λ l. first ∷ l) (numbers_more (suc first) n) ∙ ap (λ m. first ∷ (numbers_from (suc first) n ++ m ∷ [])) same

length-numbers : (first n : ℕ) → length (numbers_from first n) ≡ n
length-numbers first zero = refl
length-numbers first (suc n) = ap suc (length-numbers (suc first) n)

or_either : (a b : Bool) (P : Type 0) → (IsTrue a → P) → (IsTrue b → P) → IsTrue (a || b) → P
or_either true b P f g h = f refl
or_either false b P f g h = g h

held_either : (xs : List ℕ) (first n c : ℕ) (P : Type 0) → (IsTrue (is_held xs c) → P) → (first ≤ c → c < first + n → P) → IsTrue (is_held (xs ++ numbers_from first n) c) → P
held_either xs first n c P old new h =
    or_either (is_held xs c) (between first (first + n) c) P old (λ m. new (at_least m) (less_than m))
    (subst IsTrue (held-append xs (numbers_from first n) c ∙ ap (λ b. is_held xs c || b) (held_numbers first n c)) h)
  where
    at_least : IsTrue (between first (first + n) c) → first ≤ c
    at_least m = grind (arith, nat_tests)

    less_than : IsTrue (between first (first + n) c) → c < first + n
    less_than m = grind (arith, nat_tests)

rising_numbers : (xs : List ℕ) (first n : ℕ) → IsRising xs → ((c : ℕ) → IsTrue (is_held xs c) → c < first) → IsRising (xs ++ numbers_from first n)
rising_numbers xs first zero up below = subst IsRising (sym (append-nil xs)) up
rising_numbers xs first (suc n) up below =
    subst IsRising (append-assoc xs (numbers_from first n) ((first + n) ∷ []) ∙ ap (λ l. xs ++ l) (sym (numbers_more first n)))
    (rising-append (first + n) (xs ++ numbers_from first n) (rising_numbers xs first n up below)
    (λ c h. held_either xs first n c (c < first + n) (λ m. let b = below c m in omega (arith, b)) (λ low high. high) h))

-- ---- rows that are gathered

row_beyond : (first end reached c : ℕ) → (first ≤ c → c < reached → ⊥) → between (max reached first) (max reached first + (end - max reached first)) c ≡ between first end c
row_beyond first end reached c neither = by (nat_le first c) (nat_lt c reached) refl refl
  where
    by : (a b : Bool) → nat_le first c ≡ a → nat_lt c reached ≡ b → between (max reached first) (max reached first + (end - max reached first)) c ≡ between first end c
    by true true p q = absurd (neither (grind (arith, nat_tests)) (grind (arith, nat_tests)))
    by true false p q = grind (arith, nat_tests)
    by false true p q = grind (arith, nat_tests)
    by false false p q = grind (arith, nat_tests)

module _ (rows : List Row) (sorted : IsNonDecreasingBy (λ row. row.first) rows) (i : ℕ) (d : Row) (lt : i < length rows) (xs : List ℕ) (reached : ℕ) (before : Gathered rows i xs reached) where
  all_begun : (c : ℕ) → (get_or rows i d).first ≤ c → (j : ℕ) (e : Row) → j < i → (get_or rows j e).first ≤ c
  all_begun c h j e m =
      let up : (get_or rows j e).first ≤ (get_or rows i e).first = sorted j i e (omega (arith, m)) lt in
      let same : get_or rows i e ≡ get_or rows i d = item_at rows i e d lt in
      let here : (get_or rows i e).first ≡ (get_or rows i d).first = ap (λ (r : Row). r.first) same in
      omega (arith, up, here, h)

  joined : (first end c : ℕ) → (first ≤ c → (j : ℕ) (e : Row) → j < i → (get_or rows j e).first ≤ c) → (held : Bool) → is_held xs c ≡ held
      → (held || between (max reached first) (max reached first + (end - max reached first)) c) ≡ (held || between first end c)
  joined first end c begun true e = refl
  joined first end c begun false e = row_beyond first end reached c (λ low high. not_held e (before.full c (begun low) high))
    where
      not_held : is_held xs c ≡ false → IsTrue (is_held xs c) → ⊥
      not_held e h = cc

  module _ (first end : ℕ) (is_first : (get_or rows i d).first ≡ first) (is_end : (get_or rows i d).end ≡ end) (new : List ℕ) (is : new ≡ xs ++ numbers_from (max reached first) (end - max reached first)) where
    members_next : (c : ℕ) → is_held new c ≡ in_rows (take (i + 1) rows) c
    members_next c =
        ap (λ l. is_held l c) is ∙ held-append xs (numbers_from (max reached first) (end - max reached first)) c
        ∙ ap (λ b. is_held xs c || b) (held_numbers (max reached first) (end - max reached first) c)
        ∙ joined first end c (λ h. all_begun c (subst (λ m. m ≤ c) (sym is_first) h)) (is_held xs c) refl
        ∙ ap (λ b. b || between first end c) (before.members c)
        ∙ ap (λ m. in_rows (take i rows) c || between m end c) (sym is_first)
        ∙ ap (λ m. in_rows (take i rows) c || between (get_or rows i d).first m c) (sym is_end)
        ∙ sym (list_any_more (λ (r : Row). between r.first r.end c) rows i d lt)

    pub gathered_next : end ≤ most_cells → Gathered rows (i + 1) new (max reached end)
    gathered_next few =
        let short = before.few in
        let long = ap length is ∙ length-append xs (numbers_from (max reached first) (end - max reached first)) in
        let count = length-numbers (max reached first) (end - max reached first) in
        let small = before.within in
        record {
          rising = subst IsRising (sym is) (rising_numbers xs (max reached first) (end - max reached first) before.rising (λ c h. (let b = before.below c h in omega (arith, b))));
          members = members_next;
          below = λ c h. held_either xs (max reached first) (end - max reached first) c (c < max reached end) (λ m. (let b = before.below c m in omega (arith, b))) (λ low high. omega (arith, low, high)) (subst (λ l. IsTrue (is_held l c)) is h);
          full = λ c begun high. full_next c (λ j e m. begun j e (omega (arith, m))) (subst (λ m. m ≤ c) is_first (begun i d (omega arith))) high (nat_lt c reached) refl;
          few = omega (arith, short, long, count);
          within = omega (arith, few, small);
        }
      where
        full_next : (c : ℕ) → ((j : ℕ) (e : Row) → j < i → (get_or rows j e).first ≤ c) → first ≤ c → c < max reached end → (b : Bool) → nat_lt c reached ≡ b → IsTrue (is_held new c)
        full_next c begun low high true t =
            let near : c < reached = grind (arith, nat_tests) in
            subst IsTrue (sym (ap (λ l. is_held l c) is ∙ held-append xs (numbers_from (max reached first) (end - max reached first)) c))
            (or_first (is_held xs c) (is_held (numbers_from (max reached first) (end - max reached first)) c) (before.full c begun near))
        full_next c begun low high false t =
            let far : reached ≤ c = grind (arith, nat_tests) in
            let inside : IsTrue (between (max reached first) (max reached first + (end - max reached first)) c) = between_true (max reached first) (max reached first + (end - max reached first)) c (omega (arith, far, low)) (omega (arith, high, far, low)) in
            subst IsTrue (sym (ap (λ l. is_held l c) is ∙ held-append xs (numbers_from (max reached first) (end - max reached first)) c))
            (or_second (is_held xs c) (is_held (numbers_from (max reached first) (end - max reached first)) c) (subst IsTrue (sym (held_numbers (max reached first) (end - max reached first) c)) inside))

pub none_gathered : (rows : List Row) (xs : List ℕ) → xs ≡ [] → Gathered rows 0 xs 0
none_gathered rows xs e =
    subst (λ l. Gathered rows 0 l 0) (sym e)
    record { rising = tt; members = λ c. nothing rows c; below = λ c h. absurd cc; full = λ c begun h. absurd (omega (arith, h)); few = omega arith; within = omega arith }
  where
    nothing : (rows : List Row) (c : ℕ) → false ≡ in_rows (take 0 rows) c
    nothing [] c = refl
    nothing (r ∷ rs) c = refl

pub all_gathered : (rows : List Row) (i : ℕ) (xs : List ℕ) (reached : ℕ) → length rows ≤ i → Gathered rows i xs reached → Lists xs (in_rows rows)
all_gathered rows i xs reached h all = record { rising = all.rising; members = λ c. all.members c ∙ ap (λ l. in_rows l c) (take_all i rows h) }

-- ---- the furthest end

-- the end of each use lies within the furthest one
first_within : (a b : ℕ) → a ≤ max a b
first_within a b = omega arith

second_within : (a b n : ℕ) → n ≤ b → n ≤ max a b
second_within a b n h = omega (arith, h)

end_within : (us : List Use) (i : ℕ) (one d : Use) (writes_only : Bool) → i < length us → one ≡ get_or us i d → end_of writes_only one ≤ furthest writes_only us
end_within [] i one d writes_only h e = absurd (omega (arith, h))
end_within (u ∷ us) zero one d writes_only h e =
    subst (λ x. end_of writes_only x ≤ furthest writes_only (u ∷ us)) (sym e) (first_within (end_of writes_only u) (furthest writes_only us))
end_within (u ∷ us) (suc i) one d writes_only h e =
    second_within (end_of writes_only u) (furthest writes_only us) (end_of writes_only one) (end_within us i one d writes_only (omega (arith, h)) e)

below_then : (a b c : ℕ) → a ≤ b → b ≤ c → a ≤ c
below_then a b c h k = omega (arith, h, k)

pub end_fits : (us : List Use) (i : ℕ) (one d : Use) (writes_only : Bool) (n : ℕ) → i < length us → one ≡ get_or us i d → furthest writes_only us ≤ n → end_of writes_only one ≤ n
end_fits us i one d writes_only n lt is h = below_then (end_of writes_only one) (furthest writes_only us) n (end_within us i one d writes_only lt is) h

-- ---- rows of uses

in_rows_push : (rows : List Row) (row : Row) (c : ℕ) → in_rows (rows ++ row ∷ []) c ≡ (between row.first row.end c || in_rows rows c)
in_rows_push rows row c = list_any-append (λ (r : Row). between r.first r.end c) rows (row ∷ []) ∙ turned (in_rows rows c) (between row.first row.end c)
  where
    turned : (a b : Bool) → (a || (b || false)) ≡ (b || a)
    turned true true = refl
    turned true false = refl
    turned false true = refl
    turned false false = refl

pub none_there : All (λ (row : Row). row.end ≤ most_cells) []
none_there i d h = absurd (omega (arith, h))

pub rows_next : (us : List Use) (i k : ℕ) (one d : Use) (writes_only : Bool) (rows new : List Row) → k ≡ i + 1 → i < length us → one ≡ get_or us i d → furthest writes_only us ≤ most_cells
    → ((c : ℕ) → in_rows rows c ≡ covers writes_only (drop k us) c) → All (λ row. row.end ≤ most_cells) rows → AddsRow writes_only one rows new
    → ((c : ℕ) → in_rows new c ≡ covers writes_only (drop i us) c) × All (λ row. row.end ≤ most_cells) new
rows_next us i k one d writes_only rows new e lt is few same within adds = by (is_counted writes_only one.kind && nat_lt one.first one.end) refl adds
  where
    left : drop i us ≡ one ∷ drop k us
    left =
        let next : k ≡ suc i = omega (arith, e) in
        drop-cons us i d lt ∙ ap (λ x. x ∷ drop (suc i) us) (sym is) ∙ ap (λ n. one ∷ drop n us) (sym next)

    alone : (b : Bool) (c : ℕ) → (is_counted writes_only one.kind && nat_lt one.first one.end) ≡ b → (is_counted writes_only one.kind && between one.first one.end c) ≡ (b && between one.first one.end c)
    alone b c t = by_kind (is_counted writes_only one.kind) b t
      where
        by_kind : (a b : Bool) → (a && nat_lt one.first one.end) ≡ b → (a && between one.first one.end c) ≡ (b && between one.first one.end c)
        by_kind true true t = refl
        by_kind true false t = let none : one.end ≤ one.first = at_most t in empty_row one.first one.end c none
          where
            at_most : nat_lt one.first one.end ≡ false → one.end ≤ one.first
            at_most t = grind (arith, nat_tests)
        by_kind false true t = absurd cc
        by_kind false false t = refl

    by : (b : Bool) → (is_counted writes_only one.kind && nat_lt one.first one.end) ≡ b → new ≡ (if b then rows ++ record { first = one.first; end = one.end } ∷ [] else rows)
        → ((c : ℕ) → in_rows new c ≡ covers writes_only (drop i us) c) × All (λ row. row.end ≤ most_cells) new
    by true t adds =
        let row : Row = record { first = one.first; end = one.end } in
        let fits : end_of writes_only one ≤ most_cells = end_fits us i one d writes_only most_cells lt is few in
        let short : one.end ≤ most_cells = subst (λ b. (if b then one.end else 0) ≤ most_cells) t fits in (
          (λ c.
              ap (λ l. in_rows l c) adds ∙ in_rows_push rows row c ∙ ap (λ b. b || in_rows rows c) (sym (alone true c t)) ∙ ap (λ b. (is_counted writes_only one.kind && between one.first one.end c) || b) (same c)
              ∙ ap (λ l. covers writes_only l c) (sym left)),
          subst (All (λ (row : Row). row.end ≤ most_cells)) (sym adds) (All-append (λ (row : Row). row.end ≤ most_cells) rows (row ∷ []) within (All-cons (λ (row : Row). row.end ≤ most_cells) row [] short none_there)),
        )
    by false t adds = (
      (λ c. ap (λ l. in_rows l c) adds ∙ same c ∙ ap (λ b. b || covers writes_only (drop k us) c) (sym (alone false c t)) ∙ ap (λ l. covers writes_only l c) (sym left)),
      subst (All (λ (row : Row). row.end ≤ most_cells)) (sym adds) within,
    )

pub no_rows : (us : List Use) (i : ℕ) (writes_only : Bool) (rows : List Row) → length us ≤ i → rows ≡ [] → (c : ℕ) → in_rows rows c ≡ covers writes_only (drop i us) c
no_rows us i writes_only rows h e c = ap (λ l. in_rows l c) e ∙ ap (λ l. covers writes_only l c) (sym (drop_all us i h))

pub listed : (us : List Use) (writes_only : Bool) (rows sorted : List Row) (xs : List ℕ) → IsPermutation rows sorted → ((c : ℕ) → in_rows rows c ≡ covers writes_only us c) → Lists xs (in_rows sorted) → Lists xs (counted writes_only (uses_in us))
listed us writes_only rows sorted xs moved same all =
    record { rising = all.rising; members = λ c. all.members c ∙ sym (list_any-IsPermutation (λ (r : Row). between r.first r.end c) rows sorted moved) ∙ same c ∙ covers_all us writes_only c }

pub furthest_next : (us : List Use) (i k : ℕ) (one d : Use) (writes_only : Bool) {end more : ℕ} → k ≡ i + 1 → i < length us → one ≡ get_or us i d → end ≡ furthest writes_only (drop k us) → more ≡ max (end_of writes_only one) end → more ≡ furthest writes_only (drop i us)
furthest_next us i k one d writes_only e lt is h m =
    let next : k ≡ suc i = omega (arith, e) in
    let left : drop i us ≡ one ∷ drop k us = drop-cons us i d lt ∙ ap (λ x. x ∷ drop (suc i) us) (sym is) ∙ ap (λ n. one ∷ drop n us) (sym next) in
    m ∙ ap (max (end_of writes_only one)) h ∙ sym (ap (furthest writes_only) left)

-- ---- where no number is past the limit, the furthest end is within it

covers_first : (u : Use) (us : List Use) (writes_only : Bool) → AreWithin (covers writes_only (u ∷ us)) → (b : Bool) → (is_counted writes_only u.kind && nat_lt u.first u.end) ≡ b → (if b then u.end else 0) ≤ most_cells
covers_first u us writes_only h true e =
    let counts : is_counted writes_only u.kind ≡ true = first_true (is_counted writes_only u.kind) (nat_lt u.first u.end) e in
    let some : nat_lt u.first u.end ≡ true = second_true (is_counted writes_only u.kind) (nat_lt u.first u.end) e in
    let lt : u.first < u.end = grind (arith, nat_tests) in
    let begun : nat_le u.first (u.end - 1) ≡ true = grind (arith, nat_tests) in
    let last : nat_lt (u.end - 1) u.end ≡ true = grind (arith, nat_tests) in
    let there : IsTrue (covers writes_only (u ∷ us) (u.end - 1)) = rw (counts, begun, last) refl in
    let below = h (u.end - 1) there in
    omega (arith, below, lt)
  where
    first_true : (a b : Bool) → (a && b) ≡ true → a ≡ true
    first_true true b h = refl
    first_true false b h = absurd cc

    second_true : (a b : Bool) → (a && b) ≡ true → b ≡ true
    second_true true b h = h
    second_true false b h = absurd cc
covers_first u us writes_only h false e = omega arith

pub furthest_within : (us : List Use) (writes_only : Bool) → AreWithin (covers writes_only us) → furthest writes_only us ≤ most_cells
furthest_within [] writes_only h = omega arith
furthest_within (u ∷ us) writes_only h =
    let one = covers_first u us writes_only h (is_counted writes_only u.kind && nat_lt u.first u.end) refl in
    let others = furthest_within us writes_only (λ c m. h c (or_second (is_counted writes_only u.kind && between u.first u.end c) (covers writes_only us c) m)) in
    omega (arith, one, others)

pub uses_furthest : (us : List Use) (writes_only : Bool) → AreWithin (counted writes_only (uses_in us)) → furthest writes_only us ≤ most_cells
uses_furthest us writes_only h = furthest_within us writes_only (λ c m. h c (subst IsTrue (covers_all us writes_only c) m))
