use Rattle.occ_term.proofs.TypedPlaces as places
use Rattle.occ_laws.proofs.values.places_lie_within.Goals as goal

pub returns : goal.returns
returns c = places.places_lie_within
