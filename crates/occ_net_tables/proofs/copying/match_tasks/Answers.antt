use Rattle.std.proofs.Common.{◌≡◌, ◌∙◌, ◌<◌, ◌≤◌, ◌⊎◌, arith, inl, inr, length, sym, List, ℕ}
use Rattle.std.specs.Prelude.{slice_get}
use Rattle.std.proofs.lemmas.Option.{slice_get_past}
use Rattle.occ_explore_laws.proofs.Beside.{same_lists}
use Rattle.occ_net_tables.proofs.copying.match_tasks.Goals as goal

before_or_past : (i n : ℕ) → (i < n) ⊎ (n ≤ i)
before_or_past i n = grind arith

-- lists of one length that are the same at each place
same_to_end : {X : Type 0} (to from : List X) (n : ℕ) → length to ≡ length from → length from ≤ n → ((i : ℕ) → i < n → slice_get to i ≡ slice_get from i) → to ≡ from
same_to_end to from n many all same = same_lists to from (λ i. by i (before_or_past i n))
  where
    by : (i : ℕ) → (i < n) ⊎ (n ≤ i) → slice_get to i ≡ slice_get from i
    by i (inl before) = same i before
    by i (inr past) = slice_get_past to i (omega (arith, many, all, past)) ∙ sym (slice_get_past from i (omega (arith, all, past)))

pub returns : goal.returns
returns c = let end = c.loop-place-test.false in let len = c.len.ensures in same_to_end c.loop-place.to.items c.args.from.now c.loop-place.place c.loop-place.invariant.0 (omega (arith, end, len)) c.loop-place.invariant.1
