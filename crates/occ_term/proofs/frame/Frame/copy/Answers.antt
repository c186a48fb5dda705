use Rattle.std.proofs.Common.{rules}
use Rattle.occ_term.proofs.frame.Frame.copy.Goals as goal

pub returns : goal.returns
returns c = search rules
