use Rattle.std.proofs.Common.{rules}
use Rattle.occ_code.proofs.compiling.compile.Goals as goal

pub returns-clause-compiled : goal.returns-clause-compiled
returns-clause-compiled c = search rules
