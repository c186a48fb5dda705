use Rattle.occ_laws.proofs.TurnExamples.{stop_stops}
use Rattle.occ_laws.proofs.turns.stop_stops.Goals as goal

pub returns : goal.returns
returns c = stop_stops
