use Rattle.std.proofs.Common.{rules}
use Rattle.occ_usage.proofs.places.constant_index.Goals as goal

pub returns-in-Ok : goal.returns-in-Ok
returns-in-Ok c = search rules
