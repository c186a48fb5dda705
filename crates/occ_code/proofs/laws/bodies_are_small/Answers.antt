use Rattle.occ_code.proofs.CodeSizes as sizes
use Rattle.occ_code.proofs.laws.bodies_are_small.Goals as goal

pub returns : goal.returns
returns c = sizes.bodies_are_small
