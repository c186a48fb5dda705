use Rattle.std.proofs.Common.{◌≡◌, ◌-◌, ◌≤◌}
use Rattle.std.specs.Prelude.{remove, vec_capacity, vec_len}
use Rattle.occ_net_tables.proofs.ready.take_out.Given as goal

abbrev pub invariant-loop-at : goal.invariant-loop-at
invariant-loop-at l = record {
  within : l.at ≤ l.last;
  items : remove l.ready.items l.at ≡ remove l.fn.ready.items l.place;
  len : vec_len l.ready ≡ vec_len l.fn.ready;
  room : vec_capacity l.ready ≡ vec_capacity l.fn.ready;
}

abbrev pub decreases-loop-at : goal.decreases-loop-at
decreases-loop-at l = l.last - l.at
