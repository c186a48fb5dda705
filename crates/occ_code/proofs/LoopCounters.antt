-- The counters of replicated SEQs.
use Rattle.std.specs.Prelude.{nat_eq, negsuc, ◌+ℤ◌, ◌/◌, ◌%◌, if◌then◌else◌}
use Rattle.std.proofs.Common.{◌≡◌, ◌∙◌, ℕ, zero, suc, ℤ, pos, ◌+◌, ◌*◌, ◌<◌, ◌≤◌, true, false, List, [], ◌∷◌, length, refl, ap, arith}
use Rattle.std.proofs.lemmas.Bool.Decides.{nat_tests}
use Rattle.occ_term.specs.Values.{Store, store_with}
use Rattle.occ_term.specs.Frames.{Variables}
use Rattle.occ_machine.specs.Machine.{by_cell, counter_at, counters_with, with_counter, kept_as, kept_value, turning}
use Rattle.occ_code.specs.Layout.{Counts}
use Rattle.occ_code.proofs.AgreeingFrames.{HoldsAs, one_held}

-- ---- counters

pub counter_set : (ns : List ℕ) (slot m : ℕ) → slot < length ns → counter_at (counters_with ns slot m) slot ≡ m
counter_set [] slot m h = absurd (omega (arith, h))
counter_set (n ∷ ns) zero m h = refl
counter_set (n ∷ ns) (suc slot) m h = counter_set ns slot m (omega (arith, h))

pub counter_kept : (ns : List ℕ) (slot other m : ℕ) → (slot ≡ other → ⊥) → counter_at (counters_with ns slot m) other ≡ counter_at ns other
counter_kept [] slot other m h = refl
counter_kept (n ∷ ns) zero zero m h = absurd (h refl)
counter_kept (n ∷ ns) zero (suc other) m h = refl
counter_kept (n ∷ ns) (suc slot) zero m h = refl
counter_kept (n ∷ ns) (suc slot) (suc other) m h = counter_kept ns slot other m (λ e. h (ap suc e))

pub length-counters_with : (ns : List ℕ) (slot m : ℕ) → length (counters_with ns slot m) ≡ length ns
length-counters_with [] slot m = refl
length-counters_with (n ∷ ns) zero m = refl
length-counters_with (n ∷ ns) (suc slot) m = ap suc (length-counters_with ns slot m)

-- a counter is no part of what agrees with a store
pub counter_held : (cells : List ℕ) (f : Variables) (s : Store) (slot m : ℕ) → HoldsAs cells f s → HoldsAs cells (with_counter f slot m) s
counter_held cells f s slot m h = record { shape = record { cells_are = h.shape.cells_are; values_for_all = h.shape.values_for_all }; same = h.same }

-- an index's value is kept
pub value_kept : (v : ℤ) → kept_value (kept_as v) ≡ v
value_kept (pos n) =
    let half : 2 * n / 2 ≡ n = omega arith in
    let even : nat_eq (2 * n % 2) 0 ≡ true = grind (arith, nat_tests) in
    ap (λ b. if b then pos (2 * n / 2) else negsuc (2 * n / 2)) even ∙ ap pos half
value_kept (negsuc n) =
    let half : (2 * n + 1) / 2 ≡ n = omega arith in
    let odd : nat_eq ((2 * n + 1) % 2) 0 ≡ false = grind (arith, nat_tests) in
    ap (λ b. if b then pos ((2 * n + 1) / 2) else negsuc ((2 * n + 1) / 2)) odd ∙ ap negsuc half

-- those below the slot stay
pub record KeepsBelow (slot : ℕ) (xs ys : List ℕ) : Type 0 where
  pub as_long : length ys ≡ length xs
  pub same : (i : ℕ) → i < slot → counter_at ys i ≡ counter_at xs i

pub keeps_all : (slot : ℕ) {xs ys : List ℕ} → ys ≡ xs → KeepsBelow slot xs ys
keeps_all slot e = record { as_long = ap length e; same = λ i h. ap (λ l. counter_at l i) e }

pub keeps_on : (slot : ℕ) {xs ys zs : List ℕ} → KeepsBelow slot xs ys → KeepsBelow slot ys zs → KeepsBelow slot xs zs
keeps_on slot a b = record { as_long = b.as_long ∙ a.as_long; same = λ i h. b.same i h ∙ a.same i h }

pub keeps_less : (slot e : ℕ) {xs ys : List ℕ} → slot ≤ e → KeepsBelow e xs ys → KeepsBelow slot xs ys
keeps_less slot e h a = record { as_long = a.as_long; same = λ i m. a.same i (omega arith) }

pub counts_kept : (slot : ℕ) (v : ℤ) (n : ℕ) (xs ys : List ℕ) → KeepsBelow (slot + 2) xs ys → Counts xs slot v n → Counts ys slot v n
counts_kept slot v n xs ys k h = (k.same slot (omega arith) ∙ h.0, ap (λ m. kept_value m +ℤ pos 1) (k.same (slot + 1) (omega arith)) ∙ h.1)

-- ---- an index that has its next value

module _ (f : Variables) (slot index n : ℕ) (v : ℤ) where
  pub turning_keeps : KeepsBelow slot f.left (turning by_cell f slot index n v).left
  turning_keeps =
      record {
        as_long = length-counters_with (counters_with f.left slot n) (slot + 1) (kept_as v) ∙ length-counters_with f.left slot n;
        same = λ i h. counter_kept (counters_with f.left slot n) (slot + 1) i (kept_as v) (λ e. omega arith) ∙ counter_kept f.left slot i n (λ e. omega arith);
      }

  pub turning_counts : slot + 1 < length f.left → Counts (turning by_cell f slot index n v).left slot (v +ℤ pos 1) n
  turning_counts h =
      let long = length-counters_with f.left slot n in
      let within : slot + 1 < length (counters_with f.left slot n) = omega (arith, long, h) in
      let first : slot < length f.left = omega (arith, h) in
      let apart : slot + 1 ≡ slot → ⊥ = λ e. omega arith in
      (counter_kept (counters_with f.left slot n) (slot + 1) slot (kept_as v) apart ∙ counter_set f.left slot n first, ap (λ m. kept_value m +ℤ pos 1) (counter_set (counters_with f.left slot n) (slot + 1) (kept_as v) within) ∙ ap (λ x. x +ℤ pos 1) (value_kept v))

  pub turning_held : (cells : List ℕ) (s : Store) → HoldsAs cells f s → HoldsAs cells (turning by_cell f slot index n v) (store_with s index v)
  turning_held cells s h = counter_held cells _ _ (slot + 1) (kept_as v) (counter_held cells _ _ slot n (one_held cells f s index v h))
