use Rattle.occ_laws.proofs.FaultExamples.{stops_both}
use Rattle.occ_laws.proofs.faults.stops_both.Goals as goal

pub returns : goal.returns
returns c = stops_both
