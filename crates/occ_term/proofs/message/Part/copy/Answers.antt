use Rattle.std.proofs.Common.{rules}
use Rattle.occ_term.proofs.message.Part.copy.Goals as goal

pub returns-in_ok-values-in-Counted : goal.returns-in_ok-values-in-Counted
returns-in_ok-values-in-Counted c = search rules
