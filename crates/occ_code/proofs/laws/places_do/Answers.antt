use Rattle.occ_code.proofs.PlacedCode as placed
use Rattle.occ_code.proofs.laws.places_do.Goals as goal

pub returns : goal.returns
returns c = placed.places_do
