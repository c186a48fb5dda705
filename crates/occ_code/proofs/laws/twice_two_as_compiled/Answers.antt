use Rattle.occ_code.proofs.Examples as examples
use Rattle.occ_code.proofs.laws.twice_two_as_compiled.Goals as goal

pub returns : goal.returns
returns c = examples.twice_two_as_compiled
