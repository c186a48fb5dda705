-- A circle, once round: a part of a way round in which none stands twice.
use Rattle.std.proofs.Common.{List, Some, [], ◌∷◌, ◌+◌, ◌-◌, ◌<◌, ◌≡◌, ◌≤◌, ◌∙◌, ◌⊎◌, IsTrue, ap, arith, drop, inl, inr, length, refl, suc, sym, take, zero, ℕ}
use Rattle.std.specs.Prelude.{slice_get, ◌%◌}
use Rattle.std.proofs.Math.Nat.{mod-eq_of_lt, mod_self}
use Rattle.std.proofs.lemmas.List.{length-drop, length-take-le}
use Rattle.occ_term.specs.Frames.{is_held}
use Rattle.occ_explore_laws.proofs.Lists.{get_inside}
use Rattle.occ_ends.specs.Ends.{Circles, IsAgain, IsOnce, IsRing}
use Rattle.occ_ends.proofs.Rounds.{lt_or_le}

-- ---- a part of a list

taken : (ns : List ℕ) (r k : ℕ) → k < r → slice_get (take r ns) k ≡ slice_get ns k
taken ns zero k h = absurd (omega (arith, h))
taken [] (suc r) k h = refl
taken (n ∷ ns) (suc r) zero h = refl
taken (n ∷ ns) (suc r) (suc k) h = taken ns r k (omega (arith, h))

dropped : (ns : List ℕ) (a k : ℕ) → slice_get (drop a ns) k ≡ slice_get ns (a + k)
dropped ns zero k = let e : k ≡ 0 + k = omega arith in ap (slice_get ns) e
dropped [] (suc a) k = refl
dropped (n ∷ ns) (suc a) k = let e : suc (a + k) ≡ suc a + k = omega arith in dropped ns a k ∙ ap (slice_get (n ∷ ns)) e

module _ (others : ℕ → List ℕ) (ns : List ℕ) (a b : ℕ) (circles : Circles others ns) (at : IsAgain ns a b) where
  abbrev part : List ℕ
  part = take (b - a) (drop a ns)

  long : length part ≡ b - a
  long = let few : b - a ≤ length (drop a ns) = let w = at.within in omega (arith, w, length-drop a ns) in length-take-le (b - a) (drop a ns) few

  there_at : (k : ℕ) → k < b - a → slice_get part k ≡ slice_get ns (a + k)
  there_at k h = taken (drop a ns) (b - a) k h ∙ dropped ns a k

  within : (i m : ℕ) → slice_get part i ≡ Some m → i < b - a
  within i m there = let h = get_inside part i m there in omega (arith, h, long)

  waits : Circles others part
  waits i m k there next = by (lt_or_le (i + 1) (b - a))
    where
      inside : i < b - a
      inside = within i m there

      here : slice_get ns (a + i) ≡ Some m
      here = sym (there_at i inside) ∙ there

      by : (i + 1 < b - a) ⊎ (b - a ≤ i + 1) → IsTrue (is_held (others m) k)
      by (inl near) =
          let short : (i + 1) % length part ≡ i + 1 = ap (λ n. (i + 1) % n) long ∙ mod-eq_of_lt near in
          let lower : a + i + 1 < length ns = let w = at.within in omega (arith, near, w) in
          let same : a + (i + 1) ≡ a + i + 1 = omega arith in
          circles (a + i) m k here
          (ap (slice_get ns) (mod-eq_of_lt lower) ∙ ap (slice_get ns) (sym same) ∙ sym (there_at (i + 1) near) ∙ ap (slice_get part) (sym short) ∙ next)
      by (inr past) =
          let last : i + 1 ≡ b - a = omega (arith, inside, past) in
          let some : 0 < b - a = let s = at.some in omega (arith, s) in
          let round : (i + 1) % length part ≡ 0 = ap (λ n. (i + 1) % n) (long ∙ sym last) ∙ mod_self (i + 1) in
          let plain : a + 0 ≡ a = omega arith in
          let first : slice_get ns a ≡ Some k = ap (slice_get ns) (sym plain) ∙ sym (there_at 0 some) ∙ ap (slice_get part) (sym round) ∙ next in
          let end : a + i + 1 ≡ b = let s = at.some in omega (arith, last, s) in
          circles (a + i) m k here (met first end at.again)
        where
          met : slice_get ns a ≡ Some k → a + i + 1 ≡ b → ((a ≡ 0) × (b ≡ length ns)) ⊎ (slice_get ns b ≡ slice_get ns a) → slice_get ns ((a + i + 1) % length ns) ≡ Some k
          met first end (inl all) =
              ap (slice_get ns) (ap (λ n. n % length ns) (end ∙ all.1) ∙ mod_self (length ns) ∙ sym all.0) ∙ first
          met first end (inr again) =
              let there : slice_get ns b ≡ Some k = again ∙ first in
              let lower : b < length ns = get_inside ns b k there in
              ap (slice_get ns) (ap (λ n. n % length ns) end ∙ mod-eq_of_lt lower) ∙ there

  once : IsOnce part
  once i j m there again = by (lt_or_le i j) (lt_or_le j i)
    where
      first : i < b - a
      first = within i m there

      second : j < b - a
      second = within j m again

      same : slice_get ns (a + i) ≡ slice_get ns (a + j)
      same = sym (there_at i first) ∙ there ∙ sym again ∙ there_at j second

      by : (i < j) ⊎ (j ≤ i) → (j < i) ⊎ (i ≤ j) → i ≡ j
      by (inl h) other = absurd (at.apart (a + i) (a + j) (omega (arith, h)) (omega (arith, second)) same)
      by (inr h) (inl k) = absurd (at.apart (a + j) (a + i) (omega (arith, k)) (omega (arith, first)) (sym same))
      by (inr h) (inr k) = omega (arith, h, k)

  pub ring_of : IsRing others part
  ring_of = record { some = let s = at.some in omega (arith, long, s); waits = waits; once = once }
