use Rattle.std.proofs.Common.{◌-◌, ◌<◌, ◌≤◌, ℕ, get_or, length}
use Rattle.occ_net_tables.proofs.ready.place_for.Given as goal

abbrev pub invariant-loop-low : goal.invariant-loop-low
invariant-loop-low l = record {
  ordered : l.low ≤ l.high;
  bounded : l.high ≤ length l.ready;
  below : (k : ℕ) → k < l.low → get_or l.ready k 0 < l.number;
  above : (k : ℕ) → l.high ≤ k → k < length l.ready → l.number ≤ get_or l.ready k 0;
}

abbrev pub decreases-loop-low : goal.decreases-loop-low
decreases-loop-low l = l.high - l.low
