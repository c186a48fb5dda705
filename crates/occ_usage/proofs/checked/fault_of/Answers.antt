use Rattle.std.proofs.Common.{rules}
use Rattle.occ_usage.proofs.checked.fault_of.Goals as goal

pub returns-in-Inputs : goal.returns-in-Inputs
returns-in-Inputs c = search rules
