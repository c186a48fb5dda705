use Rattle.std.proofs.Common.{rules}
use Rattle.occ_term.proofs.message.Part.is_same.Goals as goal

pub returns-then-eq : goal.returns-then-eq
returns-then-eq c = search rules
