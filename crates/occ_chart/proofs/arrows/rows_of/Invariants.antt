use Rattle.std.proofs.Common.{◌≡◌, ◌≤◌, ◌+◌, ◌-◌, ◌*◌}
use Rattle.occ_chart.specs.Charts.{rows_of}
use Rattle.occ_chart.specs.Places.{if_close}
use Rattle.occ_chart.proofs.arrows.rows_of.Given as goal

abbrev pub invariant-loop : goal.invariant-loop
invariant-loop l = record {
  near : l.rows ≤ 3 * l.counter + 1;
  counted : rows_of l.layout.close l.left l.rows (l.fn.count - l.counter) ≡ rows_of l.layout.close 30 (if_close l.layout.close 1) l.fn.count;
}
