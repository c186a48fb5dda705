use Rattle.occ_live_laws.proofs.Ahead.{bytes_ahead}
use Rattle.occ_live_laws.proofs.bytes_ahead.Goals as goal

pub returns : goal.returns
returns c = bytes_ahead
