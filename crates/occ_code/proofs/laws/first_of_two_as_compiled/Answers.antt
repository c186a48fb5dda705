use Rattle.occ_code.proofs.Examples as examples
use Rattle.occ_code.proofs.laws.first_of_two_as_compiled.Goals as goal

pub returns : goal.returns
returns c = examples.first_of_two_as_compiled
