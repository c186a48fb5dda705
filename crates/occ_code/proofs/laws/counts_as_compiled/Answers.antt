use Rattle.occ_code.proofs.Examples as examples
use Rattle.occ_code.proofs.laws.counts_as_compiled.Goals as goal

pub returns : goal.returns
returns c = examples.counts_as_compiled
