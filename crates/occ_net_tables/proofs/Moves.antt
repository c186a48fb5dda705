-- Numbers that are moved by one place, one after another.
use Rattle.std.proofs.Common.{◌≡◌, ◌∙◌, ℕ, zero, suc, ◌+◌, ◌<◌, ◌≤◌, ◌⊎◌, inl, inr, List, [], ◌∷◌, get_or, length, refl, sym, ap, subst, arith}
use Rattle.std.specs.Prelude.{insert, remove, slice_set}
use Rattle.occ_machine.specs.SameStop.{IsRising}
use Rattle.occ_net_replay.proofs.Tables.{same_or_not}
use Rattle.occ_net_tables.specs.Ready.{put_in}
use Rattle.occ_net_tables.proofs.ReadyLists.{insert_is, rising_le}

-- ---- a number that is put in, from the last place down

sunk : (xs : List ℕ) (i n d : ℕ) → i < length xs → slice_set (slice_set (insert xs (suc i) n) (suc i) (get_or (insert xs (suc i) n) i d)) i n ≡ insert xs i n
sunk [] i n d h = absurd (omega (arith, h))
sunk (x ∷ xs) zero n d h = refl
sunk (x ∷ xs) (suc i) n d h = ap (λ l. x ∷ l) (sunk xs i n d (omega (arith, h)))

kept_below : (xs : List ℕ) (i j n d : ℕ) → i < j → i < length xs → get_or (insert xs j n) i d ≡ get_or xs i 0
kept_below [] i j n d h l = absurd (omega (arith, l))
kept_below (x ∷ xs) i zero n d h l = absurd (omega (arith, h))
kept_below (x ∷ xs) zero (suc j) n d h l = refl
kept_below (x ∷ xs) (suc i) (suc j) n d h l = kept_below xs i j n d (omega (arith, h)) (omega (arith, l))

-- The number n is put into xs at j, and v stands before it.
module _ (xs ys : List ℕ) (i j n v : ℕ) (is : ys ≡ insert xs j n) (e : j ≡ i + 1) (h : i < length xs) (value : v ≡ get_or ys i v) where
  pub before : v ≡ get_or xs i 0
  before = value ∙ ap (λ l. get_or l i v) is ∙ kept_below xs i j n v (omega (arith, e)) h

  -- so it goes one place down
  pub one_down : slice_set (slice_set ys j v) i n ≡ insert xs i n
  one_down =
      let at : j ≡ suc i = omega (arith, e) in
      ap (λ (w : ℕ). slice_set (slice_set ys j w) i n) value
      ∙ ap (λ l. slice_set (slice_set l j (get_or l i v)) i n) is
      ∙ ap (λ (k : ℕ). slice_set (slice_set (insert xs k n) k (get_or (insert xs k n) i v)) i n) at
      ∙ sunk xs i n v h

  pub above_more : n ≤ v → ((k : ℕ) → j ≤ k → k < length xs → n ≤ get_or xs k 0) → (k : ℕ) → i ≤ k → k < length xs → n ≤ get_or xs k 0
  above_more less a k l m = by (same_or_not k i)
    where
      by : (k ≡ i) ⊎ (k ≡ i → ⊥) → n ≤ get_or xs k 0
      by (inl q) = subst (λ (z : ℕ). n ≤ get_or xs z 0) (sym q) (subst (λ (z : ℕ). n ≤ z) before less)
      by (inr q) = a k (omega (arith, e, l, q)) m

  -- or it is where it belongs
  pub put_behind : IsRising xs → v < n → j ≤ length xs → ((k : ℕ) → j ≤ k → k < length xs → n ≤ get_or xs k 0) → ys ≡ put_in n xs
  put_behind rising less w a =
      let b = before in
      is ∙ insert_is xs j n w (λ k l. let le = rising_le xs k i rising (omega (arith, e, l)) h in omega (arith, le, b, less)) a

-- ---- a number that is taken out, up to the last place

raised : (ys : List ℕ) (i d : ℕ) → suc i < length ys → remove (slice_set ys i (get_or ys (suc i) d)) (suc i) ≡ remove ys i
raised [] i d h = absurd (omega (arith, h))
raised (x ∷ []) i d h = absurd (omega (arith, h))
raised (x ∷ y ∷ ys) zero d h = refl
raised (x ∷ y ∷ ys) (suc i) d h = ap (λ l. x ∷ l) (raised (y ∷ ys) i d (omega (arith, h)))

-- what stands at j comes to the place before it
pub one_up : (ys : List ℕ) (i j v : ℕ) → j ≡ i + 1 → j < length ys → v ≡ get_or ys j v → remove (slice_set ys i v) j ≡ remove ys i
one_up ys i j v e h value =
    let at : j ≡ suc i = omega (arith, e) in
    ap (λ (w : ℕ). remove (slice_set ys i w) j) value
    ∙ ap (λ (k : ℕ). remove (slice_set ys i (get_or ys k v)) k) at ∙ raised ys i v (omega (arith, e, h))
