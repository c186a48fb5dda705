-- Rising lists of numbers, and the numbers of the processes that may take a turn.
use Rattle.std.proofs.Common.{◌≡◌, ◌∙◌, refl, sym, ap, Bool, true, false, ℕ, zero, suc, ◌+◌, ◌<◌, ◌≤◌, ◌⊎◌, inl, inr, List, [], ◌∷◌, Option, Some, get_or, length, ltb-true, ltb-false, arith}
use Rattle.std.specs.Prelude.{if◌then◌else◌, insert, nat_lt, remove, slice_get, slice_set}
use Rattle.occ_machine.specs.SameStop.{AreAbove, IsRising}
use Rattle.occ_machine.specs.declared.task.Task.{Task}
use Rattle.occ_net_replay.specs.Replay.{Tasks, goes, ready_from}
use Rattle.occ_net_tables.specs.Ready.{put_in}

-- ---- rising lists

above_at : (n : ℕ) (xs : List ℕ) (j : ℕ) → AreAbove n xs → j < length xs → n < get_or xs j 0
above_at n [] j h l = absurd (omega (arith, l))
above_at n (x ∷ xs) zero h l = h.0
above_at n (x ∷ xs) (suc j) h l = let a = above_at x xs j h.1 (omega (arith, l)) in let b = h.0 in omega (arith, a, b)

rising_tail : (x : ℕ) (xs : List ℕ) → AreAbove x xs → IsRising xs
rising_tail x [] h = tt
rising_tail x (y ∷ xs) h = h.1

pub rising_le : (xs : List ℕ) (i j : ℕ) → IsRising xs → i ≤ j → j < length xs → get_or xs i 0 ≤ get_or xs j 0
rising_le [] i j h l k = absurd (omega (arith, k))
rising_le (x ∷ xs) zero zero h l k = omega arith
rising_le (x ∷ xs) zero (suc j) h l k = let a = above_at x xs j h (omega (arith, k)) in omega (arith, a)
rising_le (x ∷ xs) (suc i) zero h l k = absurd (omega (arith, l))
rising_le (x ∷ xs) (suc i) (suc j) h l k = rising_le xs i j (rising_tail x xs h) (omega (arith, l)) (omega (arith, k))

ltb_tells : (x n : ℕ) → ((nat_lt x n ≡ true) × (x < n)) ⊎ ((nat_lt x n ≡ false) × (n ≤ x))
ltb_tells x n = by (nat_lt x n) refl
  where
    by : (b : Bool) → nat_lt x n ≡ b → ((nat_lt x n ≡ true) × (x < n)) ⊎ ((nat_lt x n ≡ false) × (n ≤ x))
    by true e = inl (e, ltb-true x n e)
    by false e = inr (e, ltb-false x n e)

put_less : (x n : ℕ) (xs : List ℕ) → x < n → put_in n (x ∷ xs) ≡ x ∷ put_in n xs
put_less x n xs h = by (ltb_tells x n)
  where
    by : ((nat_lt x n ≡ true) × (x < n)) ⊎ ((nat_lt x n ≡ false) × (n ≤ x)) → put_in n (x ∷ xs) ≡ x ∷ put_in n xs
    by (inl t) = ap (λ b. if b then x ∷ put_in n xs else n ∷ x ∷ xs) t.0
    by (inr t) = absurd (let l = t.1 in omega (arith, l, h))

put_here : (x n : ℕ) (xs : List ℕ) → n ≤ x → put_in n (x ∷ xs) ≡ n ∷ x ∷ xs
put_here x n xs h = by (ltb_tells x n)
  where
    by : ((nat_lt x n ≡ true) × (x < n)) ⊎ ((nat_lt x n ≡ false) × (n ≤ x)) → put_in n (x ∷ xs) ≡ n ∷ x ∷ xs
    by (inl t) = absurd (let l = t.1 in omega (arith, l, h))
    by (inr t) = ap (λ b. if b then x ∷ put_in n xs else n ∷ x ∷ xs) t.0

pub insert_is : (xs : List ℕ) (i n : ℕ) → i ≤ length xs → ((k : ℕ) → k < i → get_or xs k 0 < n) → ((k : ℕ) → i ≤ k → k < length xs → n ≤ get_or xs k 0) → insert xs i n ≡ put_in n xs
insert_is [] zero n h b a = refl
insert_is [] (suc i) n h b a = absurd (omega (arith, h))
insert_is (x ∷ xs) zero n h b a = sym (put_here x n xs (a 0 (omega arith) (omega arith)))
insert_is (x ∷ xs) (suc i) n h b a =
    ap (λ l. x ∷ l) (insert_is xs i n (omega (arith, h)) (λ k l. b (suc k) (omega (arith, l))) (λ k l m. a (suc k) (omega (arith, l)) (omega (arith, m))))
    ∙ sym (put_less x n xs (b 0 (omega arith)))

-- ---- who is ready

pub ready_above : (a k : ℕ) (tasks : Tasks) → a < k → AreAbove a (ready_from k tasks)
ready_above a k [] h = tt
ready_above a k (t ∷ ts) h = by (goes t) (ready_above a (k + 1) ts (omega (arith, h))) (ready_above k (k + 1) ts (omega arith))
  where
    by : (b : Bool) → AreAbove a (ready_from (k + 1) ts) → AreAbove k (ready_from (k + 1) ts) → AreAbove a (if b then k ∷ ready_from (k + 1) ts else ready_from (k + 1) ts)
    by true f g = (h, g)
    by false f g = f

pub ready_rising : (k : ℕ) (tasks : Tasks) → IsRising (ready_from k tasks)
ready_rising k [] = tt
ready_rising k (t ∷ ts) = by (goes t) (ready_rising (k + 1) ts)
  where
    by : (b : Bool) → IsRising (ready_from (k + 1) ts) → IsRising (if b then k ∷ ready_from (k + 1) ts else ready_from (k + 1) ts)
    by true r = ready_above k (k + 1) ts (omega arith)
    by false r = r

abbrev with_first : Bool → ℕ → List ℕ → List ℕ
with_first b k xs = if b then k ∷ xs else xs

pub ready_same : (k : ℕ) (tasks : Tasks) (i : ℕ) (x y : Option Task) → slice_get tasks i ≡ Some x → goes x ≡ goes y → ready_from k (slice_set tasks i y) ≡ ready_from k tasks
ready_same k [] i x y h e = refl
ready_same k (t ∷ ts) zero x y h e = let same : t ≡ x = cc in ap (λ b. with_first b k (ready_from (k + 1) ts)) (sym e ∙ ap goes (sym same))
ready_same k (t ∷ ts) (suc i) x y h e = ap (with_first (goes t) k) (ready_same (k + 1) ts i x y h e)

put_first : (n : ℕ) (xs : List ℕ) → AreAbove n xs → put_in n xs ≡ n ∷ xs
put_first n [] h = refl
put_first n (x ∷ xs) h = put_here x n xs (let l = h.0 in omega (arith, l))

pub ready_put : (k : ℕ) (tasks : Tasks) (i n : ℕ) (x y : Option Task) → slice_get tasks i ≡ Some x → goes x ≡ false → goes y ≡ true → n ≡ k + i → ready_from k (slice_set tasks i y) ≡ put_in n (ready_from k tasks)
ready_put k [] i n x y h e f q = absurd cc
ready_put k (t ∷ ts) zero n x y h e f q =
    let same : t ≡ x = cc in
    let at : n ≡ k = omega (arith, q) in
    ap (λ b. with_first b k (ready_from (k + 1) ts)) f ∙ ap (λ m. m ∷ ready_from (k + 1) ts) (sym at) ∙ sym (put_first n (ready_from (k + 1) ts) (ready_above n (k + 1) ts (omega (arith, at))))
    ∙ ap (λ b. put_in n (with_first b k (ready_from (k + 1) ts))) (sym e ∙ ap goes (sym same))
ready_put k (t ∷ ts) (suc i) n x y h e f q = by (goes t) (ready_put (k + 1) ts i n x y h e f (omega (arith, q)))
  where
    by : (b : Bool) → ready_from (k + 1) (slice_set ts i y) ≡ put_in n (ready_from (k + 1) ts) → with_first b k (ready_from (k + 1) (slice_set ts i y)) ≡ put_in n (with_first b k (ready_from (k + 1) ts))
    by true r = ap (λ l. k ∷ l) r ∙ sym (put_less k n (ready_from (k + 1) ts) (omega (arith, q)))
    by false r = r

-- nobody is there twice
not_above : (k : ℕ) (xs : List ℕ) (j n : ℕ) → AreAbove k xs → slice_get xs j ≡ Some n → n ≤ k → ⊥
not_above k [] j n h e l = cc
not_above k (x ∷ xs) zero n h e l = let same : x ≡ n = cc in let a = h.0 in omega (arith, same, a, l)
not_above k (x ∷ xs) (suc j) n h e l = not_above x xs j n h.1 e (let a = h.0 in omega (arith, a, l))

pub ready_out : (k : ℕ) (tasks : Tasks) (i n place : ℕ) (y : Option Task) → slice_get (ready_from k tasks) place ≡ Some n → goes y ≡ false → n ≡ k + i → ready_from k (slice_set tasks i y) ≡ remove (ready_from k tasks) place
ready_out k [] i n place y h f q = absurd cc
ready_out k (t ∷ ts) zero n place y h f q = by (goes t) place h
  where
    at : n ≡ k
    at = omega (arith, q)

    by : (b : Bool) (place : ℕ) → slice_get (with_first b k (ready_from (k + 1) ts)) place ≡ Some n → with_first (goes y) k (ready_from (k + 1) ts) ≡ remove (with_first b k (ready_from (k + 1) ts)) place
    by true zero e = ap (λ b. with_first b k (ready_from (k + 1) ts)) f
    by true (suc j) e = absurd (not_above k (ready_from (k + 1) ts) j n (ready_above k (k + 1) ts (omega arith)) e (omega (arith, at)))
    by false j e = absurd (not_above k (ready_from (k + 1) ts) j n (ready_above k (k + 1) ts (omega arith)) e (omega (arith, at)))
ready_out k (t ∷ ts) (suc i) n place y h f q = by (λ j e. ready_out (k + 1) ts i n j y e f (omega (arith, q))) (goes t) place h
  where
    by : ((j : ℕ) → slice_get (ready_from (k + 1) ts) j ≡ Some n → ready_from (k + 1) (slice_set ts i y) ≡ remove (ready_from (k + 1) ts) j) → (b : Bool) (place : ℕ) → slice_get (with_first b k (ready_from (k + 1) ts)) place ≡ Some n → with_first b k (ready_from (k + 1) (slice_set ts i y)) ≡ remove (with_first b k (ready_from (k + 1) ts)) place
    by again true zero e = absurd (let same : k ≡ n = cc in omega (arith, same, q))
    by again true (suc j) e = ap (λ l. k ∷ l) (again j e)
    by again false j e = again j e
