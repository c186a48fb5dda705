-- Frames that are read and written by the place of a cell.
use Rattle.std.specs.Prelude.{IfSome, nat_eq, option_map, if◌then◌else◌, replicate, unwrap_or}
use Rattle.std.proofs.Common.{◌≡◌, ◌∙◌, sym, refl, ap, ℕ, zero, suc, ◌+◌, ◌-◌, ◌<◌, ◌≤◌, Bool, true, false, Option, Some, None, List, [], ◌∷◌, ◌++◌, length, get_or, drop, take, ℤ, pos, add-zero, arith}
use Rattle.std.proofs.Math.Seq.{drop-cons}
use Rattle.std.proofs.Math.ListN.{set}
use Rattle.std.proofs.lemmas.Bool.Decides.{nat_tests}
use Rattle.occ_term.specs.Values.{values_from}
use Rattle.occ_term.specs.Frames.{Variables, row_with, value_at, values_with, frame_from, frame_with, span_with, place_among, place_in, counter_at, counters_with}

-- ---- the place of a cell

pub place_none : (xs : List ℕ) (c : ℕ) → ((k : ℕ) → k < length xs → get_or xs k 0 ≡ c → ⊥) → place_in xs c ≡ None
place_none [] c n = refl
place_none (x ∷ xs) c n =
    let before : x ≡ c → ⊥ = n 0 (omega arith) in
    let other : nat_eq x c ≡ false = grind (arith, nat_tests) in
    ap (λ b. if b then Some 0 else option_map suc (place_in xs c)) other
    ∙ ap (option_map suc) (place_none xs c (λ k m. n (suc k) (omega arith)))

end_or_before : (o : Option ℕ) (n : ℕ) → unwrap_or o n ≤ n → unwrap_or (option_map suc o) (suc n) ≤ suc n
end_or_before None n h = omega arith
end_or_before (Some i) n h = omega (arith, h)

pub place_among_within : (xs : List ℕ) (c : ℕ) → place_among xs c ≤ length xs
place_among_within [] c = omega arith
place_among_within (x ∷ xs) c = by_test (place_among_within xs c) (nat_eq x c)
  where
    by_test : place_among xs c ≤ length xs → (b : Bool) → unwrap_or (if b then Some 0 else option_map suc (place_in xs c)) (suc (length xs)) ≤ suc (length xs)
    by_test h true = omega arith
    by_test h false = end_or_before (place_in xs c) (length xs) h

place_next : (o : Option ℕ) (n : ℕ) → IfSome o (λ place. place < n) → IfSome (option_map suc o) (λ place. place < suc n)
place_next None n h = h
place_next (Some i) n h = omega (arith, h)

pub place_within : (xs : List ℕ) (c : ℕ) → IfSome (place_in xs c) (λ place. place < length xs)
place_within [] c = tt
place_within (x ∷ xs) c = by_test (place_within xs c) (nat_eq x c)
  where
    by_test : IfSome (place_in xs c) (λ place. place < length xs) → (b : Bool) → IfSome (if b then Some 0 else option_map suc (place_in xs c)) (λ place. place < suc (length xs))
    by_test h true = omega arith
    by_test h false = place_next (place_in xs c) (length xs) h

-- ---- what stands at a place

abbrev pub read_at : Option ℕ → List ℤ → ℤ
read_at None vs = pos 0
read_at (Some i) vs = get_or vs i (pos 0)

nothing_there : (o : Option ℕ) → read_at o [] ≡ pos 0
nothing_there None = refl
nothing_there (Some i) = refl

read_next : (o : Option ℕ) (v : ℤ) (vs : List ℤ) → read_at o vs ≡ read_at (option_map suc o) (v ∷ vs)
read_next None v vs = refl
read_next (Some i) v vs = refl

pub value_by : (xs : List ℕ) (vs : List ℤ) (c : ℕ) → value_at xs vs c ≡ read_at (place_in xs c) vs
value_by [] vs c = refl
value_by (x ∷ xs) [] c = sym (nothing_there (place_in (x ∷ xs) c))
value_by (x ∷ xs) (v ∷ vs) c = by_test (value_by xs vs c) (nat_eq x c)
  where
    by_test : value_at xs vs c ≡ read_at (place_in xs c) vs → (b : Bool) → (if b then v else value_at xs vs c) ≡ read_at (if b then Some 0 else option_map suc (place_in xs c)) (v ∷ vs)
    by_test e true = refl
    by_test e false = e ∙ read_next (place_in xs c) v vs

abbrev pub write_at : Option ℕ → List ℤ → ℤ → List ℤ
write_at None vs v = vs
write_at (Some i) vs v = set vs i v

nothing_written : (o : Option ℕ) (v : ℤ) → write_at o [] v ≡ []
nothing_written None v = refl
nothing_written (Some i) v = refl

write_next : (o : Option ℕ) (w : ℤ) (vs : List ℤ) (v : ℤ) → w ∷ write_at o vs v ≡ write_at (option_map suc o) (w ∷ vs) v
write_next None w vs v = refl
write_next (Some i) w vs v = refl

pub with_by : (xs : List ℕ) (vs : List ℤ) (c : ℕ) (v : ℤ) → values_with xs vs c v ≡ write_at (place_in xs c) vs v
with_by [] vs c v = refl
with_by (x ∷ xs) [] c v = sym (nothing_written (place_in (x ∷ xs) c) v)
with_by (x ∷ xs) (w ∷ vs) c v = by_test (with_by xs vs c v) (nat_eq x c)
  where
    by_test : values_with xs vs c v ≡ write_at (place_in xs c) vs v → (b : Bool) → (if b then v ∷ vs else w ∷ values_with xs vs c v) ≡ write_at (if b then Some 0 else option_map suc (place_in xs c)) (w ∷ vs) v
    by_test e true = refl
    by_test e false = ap (λ ws. w ∷ ws) e ∙ write_next (place_in xs c) w vs v

pub set_past : (vs : List ℤ) (i : ℕ) (v : ℤ) → length vs ≤ i → set vs i v ≡ vs
set_past [] i v h = refl
set_past (w ∷ vs) zero v h = absurd (omega (arith, h))
set_past (w ∷ vs) (suc i) v h = ap (λ ws. w ∷ ws) (set_past vs i v (omega arith))

pub values_with_long : (xs : List ℕ) (vs : List ℤ) (c : ℕ) (v : ℤ) → length (values_with xs vs c v) ≡ length vs
values_with_long [] vs c v = refl
values_with_long (x ∷ xs) [] c v = refl
values_with_long (x ∷ xs) (w ∷ vs) c v = by_test (values_with_long xs vs c v) (nat_eq x c)
  where
    by_test : length (values_with xs vs c v) ≡ length vs → (b : Bool) → length (if b then v ∷ vs else w ∷ values_with xs vs c v) ≡ suc (length vs)
    by_test e true = refl
    by_test e false = ap suc e

pub span_with_long : (xs : List ℕ) (held : List ℤ) (first : ℕ) (vs : List ℤ) → length (span_with xs held first vs) ≡ length held
span_with_long xs held first [] = refl
span_with_long xs held first (v ∷ vs) = span_with_long xs (values_with xs held first v) (first + 1) vs ∙ values_with_long xs held first v

pub value_there : (xs : List ℕ) (vs : List ℤ) (c : ℕ) (o : Option ℕ) → o ≡ place_in xs c → value_at xs vs c ≡ read_at o vs
value_there xs vs c o e = value_by xs vs c ∙ ap (λ p. read_at p vs) (sym e)

pub with_there : (xs : List ℕ) (vs : List ℤ) (c : ℕ) (v : ℤ) (o : Option ℕ) → o ≡ place_in xs c → values_with xs vs c v ≡ write_at o vs v
with_there xs vs c v o e = with_by xs vs c v ∙ ap (λ p. write_at p vs v) (sym e)

-- ---- values in a row

pub frame_from_is : (vs : List ℤ) (first : ℕ) (f : Variables) → frame_from first vs f ≡ record f { values = span_with f.cells f.values first vs }
frame_from_is [] first f = refl
frame_from_is (v ∷ vs) first f = frame_from_is vs (first + 1) (frame_with f first v)

-- no cell is as great as that
pub span_beyond : (xs : List ℕ) (held : List ℤ) (vs : List ℤ) (first bound : ℕ) → ((k : ℕ) → get_or xs k 0 < bound) → bound ≤ first → span_with xs held first vs ≡ held
span_beyond xs held [] first bound h m = refl
span_beyond xs held (v ∷ vs) first bound h m =
    let none = place_none xs first (λ k i e. let below = h k in omega (arith, below, e)) in
    let same : values_with xs held first v ≡ held = with_there xs held first v None (sym none) in
    ap (λ ws. span_with xs ws (first + 1) vs) same ∙ span_beyond xs held vs (first + 1) bound h (omega arith)

-- ---- places in a row

-- cells in a row, at places in a row
abbrev StandInRow : List ℕ → ℕ → ℕ → ℕ → Type 0
StandInRow xs first place count = (k : ℕ) → k < count → place_in xs (first + k) ≡ Some (place + k)

first_place : (xs : List ℕ) (first place count : ℕ) → StandInRow xs first place (suc count) → place_in xs first ≡ Some place
first_place xs first place count row = ap (place_in xs) (sym (add-zero first)) ∙ row 0 (omega arith) ∙ ap Some (add-zero place)

next_places : (xs : List ℕ) (first place count : ℕ) → StandInRow xs first place (suc count) → StandInRow xs (first + 1) (suc place) count
next_places xs first place count row k h =
    let cell : first + 1 + k ≡ first + suc k = omega arith in
    let there : place + suc k ≡ suc place + k = omega arith in
    ap (place_in xs) cell ∙ row (suc k) (omega (arith, h)) ∙ ap Some there

pub row_span : (xs : List ℕ) (held vs : List ℤ) (first place : ℕ) → StandInRow xs first place (length vs) → row_with held place vs ≡ span_with xs held first vs
row_span xs held [] first place row = refl
row_span xs held (v ∷ vs) first place row =
    let one : values_with xs held first v ≡ set held place v = with_there xs held first v (Some place) (sym (first_place xs first place (length vs) row)) in
    row_span xs (set held place v) vs (first + 1) (suc place) (next_places xs first place (length vs) row) ∙ ap (λ ws. span_with xs ws (first + 1) vs) (sym one)

pub row_values : (xs : List ℕ) (vs : List ℤ) (first place count : ℕ) → StandInRow xs first place count → place + count ≤ length vs → take count (drop place vs) ≡ values_from first count (value_at xs vs)
row_values xs vs first place zero row within = refl
row_values xs vs first place (suc count) row within =
    let value : value_at xs vs first ≡ get_or vs place (pos 0) = value_there xs vs first (Some place) (sym (first_place xs first place count row)) in
    ap (take (suc count)) (drop-cons vs place (pos 0) (omega (arith, within)))
    ∙ ap (λ v. v ∷ take count (drop (suc place) vs)) (sym value)
    ∙ ap (λ ws. value_at xs vs first ∷ ws) (row_values xs vs (first + 1) (suc place) count (next_places xs first place count row) (omega (arith, within)))

pub zeros_in_row : (held : List ℤ) (place i n : ℕ) → i < n → row_with (set held (place + i) (pos 0)) (place + (i + 1)) (replicate (n - (i + 1)) (pos 0)) ≡ row_with held (place + i) (replicate (n - i) (pos 0))
zeros_in_row held place i n h =
    let next : place + (i + 1) ≡ suc (place + i) = omega arith in
    let more : n - i ≡ suc (n - (i + 1)) = omega (arith, h) in
    ap (λ m. row_with (set held (place + i) (pos 0)) m (replicate (n - (i + 1)) (pos 0))) next
    ∙ sym (ap (λ m. row_with held (place + i) (replicate m (pos 0))) more)

-- ---- zeros in a row

pub zeros_step : (xs : List ℕ) (held : List ℤ) (first i n : ℕ) → i < n → span_with xs (values_with xs held (first + i) (pos 0)) (first + (i + 1)) (replicate (n - (i + 1)) (pos 0)) ≡ span_with xs held (first + i) (replicate (n - i) (pos 0))
zeros_step xs held first i n h =
    let next : first + (i + 1) ≡ first + i + 1 = omega arith in
    let more : n - i ≡ suc (n - (i + 1)) = omega (arith, h) in
    ap (λ m. span_with xs (values_with xs held (first + i) (pos 0)) m (replicate (n - (i + 1)) (pos 0))) next
    ∙ sym (ap (λ m. span_with xs held (first + i) (replicate m (pos 0))) more)

-- ---- counters

pub counter_read : (ns : List ℕ) (slot : ℕ) → counter_at ns slot ≡ get_or ns slot 0
counter_read [] slot = refl
counter_read (n ∷ ns) zero = refl
counter_read (n ∷ ns) (suc slot) = counter_read ns slot

pub counter_past : (ns : List ℕ) (slot : ℕ) → length ns ≤ slot → counter_at ns slot ≡ 0
counter_past [] slot h = refl
counter_past (n ∷ ns) zero h = absurd (omega (arith, h))
counter_past (n ∷ ns) (suc slot) h = counter_past ns slot (omega arith)

pub counters_set : (ns : List ℕ) (slot m : ℕ) → counters_with ns slot m ≡ set ns slot m
counters_set [] slot m = refl
counters_set (n ∷ ns) zero m = refl
counters_set (n ∷ ns) (suc slot) m = ap (λ xs. n ∷ xs) (counters_set ns slot m)

pub counters_past : (ns : List ℕ) (slot m : ℕ) → length ns ≤ slot → counters_with ns slot m ≡ ns
counters_past [] slot m h = refl
counters_past (n ∷ ns) zero m h = absurd (omega (arith, h))
counters_past (n ∷ ns) (suc slot) m h = ap (λ xs. n ∷ xs) (counters_past ns slot m (omega arith))

-- ---- values at places in a row, as one piece

row_next : (x : ℤ) (held : List ℤ) (place : ℕ) (vs : List ℤ) → row_with (x ∷ held) (suc place) vs ≡ x ∷ row_with held place vs
row_next x held place [] = refl
row_next x held place (v ∷ vs) = row_next x (set held place v) (suc place) vs

row_start : (held vs : List ℤ) → length vs ≤ length held → vs ++ drop (length vs) held ≡ row_with held 0 vs
row_start [] [] h = refl
row_start (w ∷ held) [] h = refl
row_start [] (v ∷ vs) h = absurd (omega (arith, h))
row_start (w ∷ held) (v ∷ vs) h = ap (λ l. v ∷ l) (row_start held vs (omega (arith, h))) ∙ sym (row_next v held 0 vs)

pub row_mid : (held vs : List ℤ) (place : ℕ) → place + length vs ≤ length held → take place held ++ (vs ++ drop (length vs) (drop place held)) ≡ row_with held place vs
row_mid held vs zero h = row_start held vs (omega (arith, h))
row_mid [] vs (suc place) h = absurd (omega (arith, h))
row_mid (w ∷ held) vs (suc place) h = ap (λ l. w ∷ l) (row_mid held vs place (omega (arith, h))) ∙ sym (row_next w held place vs)
