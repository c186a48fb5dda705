use Rattle.std.proofs.Common.{◌≡◌, ◌<◌, ℕ, length}
use Rattle.occ_chart.specs.Places.{AreNear, nearest, place_at}
use Rattle.occ_chart.proofs.places.nearest_places.Given as goal

abbrev pub invariant-loop-column : goal.invariant-loop-column
invariant-loop-column l = record {
  many : length l.places.items ≡ l.column;
  near : AreNear l.places.items;
  stand : (k : ℕ) → k < l.column → place_at l.places.items k ≡ nearest l.close l.reaches l.heads l.places.items k;
}
