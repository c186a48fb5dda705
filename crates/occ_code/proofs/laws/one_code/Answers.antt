use Rattle.occ_code.proofs.OneCode as codes
use Rattle.occ_code.proofs.laws.one_code.Goals as goal

pub returns : goal.returns
returns c = codes.one_code
