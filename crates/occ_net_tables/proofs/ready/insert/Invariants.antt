use Rattle.std.proofs.Common.{◌≡◌, ◌+◌, ◌<◌, ◌≤◌, ℕ, get_or, length}
use Rattle.std.specs.Prelude.{insert, vec_capacity, vec_len}
use Rattle.occ_net_tables.proofs.ready.insert.Given as goal

abbrev pub invariant-loop-at : goal.invariant-loop-at
invariant-loop-at l = record {
  within : l.at ≤ length l.fn.ready.items;
  items : l.ready.items ≡ insert l.fn.ready.items l.at l.number;
  above : (k : ℕ) → l.at ≤ k → k < length l.fn.ready.items → l.number ≤ get_or l.fn.ready.items k 0;
  len : vec_len l.ready ≡ vec_len l.fn.ready + 1;
  room : vec_capacity l.fn.ready ≤ vec_capacity l.ready;
}

abbrev pub decreases-loop-at : goal.decreases-loop-at
decreases-loop-at l = l.at
