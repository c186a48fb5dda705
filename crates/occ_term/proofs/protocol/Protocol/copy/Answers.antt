use Rattle.std.proofs.Common.{rules}
use Rattle.occ_term.proofs.protocol.Protocol.copy.Goals as goal

pub returns-in-CountedArray : goal.returns-in-CountedArray
returns-in-CountedArray c = search rules
