use Rattle.occ_net_tables.proofs.Placing.{places_for_numbers}
use Rattle.occ_net.proofs.laws.places_for_numbers.Goals as goal

pub returns : goal.returns
returns c = places_for_numbers
