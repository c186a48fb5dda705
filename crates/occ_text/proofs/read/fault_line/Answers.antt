use Rattle.std.proofs.Common.{rules}
use Rattle.occ_text.proofs.read.fault_line.Goals as goal

pub returns-in-None : goal.returns-in-None
returns-in-None c = search rules
