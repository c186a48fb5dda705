use Rattle.occ_code.proofs.LaidOut as layout
use Rattle.occ_code.proofs.laws.compiled_do.Goals as goal

pub returns : goal.returns
returns c = layout.compiled_do
