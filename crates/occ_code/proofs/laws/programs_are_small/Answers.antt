use Rattle.occ_code.proofs.CodeSizes as sizes
use Rattle.occ_code.proofs.laws.programs_are_small.Goals as goal

pub returns : goal.returns
returns c = sizes.programs_are_small
