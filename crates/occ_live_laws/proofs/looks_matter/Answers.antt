use Rattle.occ_live_laws.proofs.Looking.{looks_matter}
use Rattle.occ_live_laws.proofs.looks_matter.Goals as goal

pub returns : goal.returns
returns c = looks_matter
