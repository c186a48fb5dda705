use Rattle.std.proofs.Common.{◌≡◌, Some, length, map, ℕ}
use Rattle.std.specs.Prelude.{slice_get}
use Rattle.std.specs.List.{All}
use Rattle.occ_text.specs.Words.{logical_lines}
use Rattle.occ_report.specs.Calls.{IsCallIn}
use Rattle.occ_report.specs.Located.{known}
use Rattle.occ_report.specs.Places.{AreStopsIn, IsNameOf, Known}
use Rattle.occ_report.proofs.placing.places_of.Given as goal

abbrev pub invariant-loop-number : goal.invariant-loop-number
invariant-loop-number l = record {
  each : length l.all.items ≡ l.number;
  names : All (λ k. IsNameOf (logical_lines l.lines) k.name) (map known l.all.items);
  stops : (n : ℕ) (k : Known) → slice_get (map known l.all.items) n ≡ Some k → AreStopsIn l.code.bodies (logical_lines l.lines) n k.stops;
  calls : All (λ k. All (IsCallIn (logical_lines l.lines)) k.calls) (map known l.all.items);
}
