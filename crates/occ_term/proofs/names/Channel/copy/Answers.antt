use Rattle.std.proofs.Common.{rules}
use Rattle.occ_term.proofs.names.Channel.copy.Goals as goal

pub returns : goal.returns
returns c = search rules
