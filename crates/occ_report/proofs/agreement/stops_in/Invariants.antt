use Rattle.std.proofs.Common.{◌≡◌, map, take}
use Rattle.std.specs.List.{All}
use Rattle.occ_text.specs.Words.{logical_lines}
use Rattle.occ_report.specs.Places.{IsStopIn, place_of, stop_places}
use Rattle.occ_report.proofs.agreement.stops_in.Given as goal

abbrev pub invariant-loop-place : goal.invariant-loop-place
invariant-loop-place l = record {
  stops : All (IsStopIn l.code (logical_lines l.lines)) l.stops.items;
  places : map place_of l.stops.items ≡ stop_places 0 (take l.place l.code);
}
