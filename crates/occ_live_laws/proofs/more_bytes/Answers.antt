use Rattle.occ_live_laws.proofs.Live.{more_bytes}
use Rattle.occ_live_laws.proofs.more_bytes.Goals as goal

pub returns : goal.returns
returns c = more_bytes
