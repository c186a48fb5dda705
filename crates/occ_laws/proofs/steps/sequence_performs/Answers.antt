use Rattle.occ_term.proofs.Going.{sequence_performs}
use Rattle.occ_laws.proofs.steps.sequence_performs.Goals as goal

pub returns : goal.returns
returns c = sequence_performs
