use Rattle.occ_laws.proofs.FaultExamples.{fault_halts}
use Rattle.occ_laws.proofs.faults.fault_halts.Goals as goal

pub returns : goal.returns
returns c = fault_halts
