use Rattle.occ_laws.proofs.FaultExamples.{no_byte_plays}
use Rattle.occ_laws.proofs.faults.no_byte.Goals as goal

pub returns : goal.returns
returns c = no_byte_plays
