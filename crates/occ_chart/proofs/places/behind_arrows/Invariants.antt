use Rattle.std.proofs.Common.{◌≡◌, ◌≤◌, ◌^◌, length}
use Rattle.std.specs.Prelude.{max}
use Rattle.occ_chart.specs.Places.{behind_arrows}
use Rattle.occ_chart.proofs.places.behind_arrows.Given as goal

abbrev pub invariant-loop-first : goal.invariant-loop-first
invariant-loop-first l = record {
  near : l.place ≤ 2 ^ 47;
  so : max l.place (behind_arrows l.places l.column l.rest) ≡ behind_arrows l.places l.column l.fn.reaches;
}

abbrev pub decreases-loop-first : goal.decreases-loop-first
decreases-loop-first l = length l.rest
