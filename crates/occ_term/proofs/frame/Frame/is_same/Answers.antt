use Rattle.std.proofs.Common.{rules}
use Rattle.occ_term.proofs.frame.Frame.is_same.Goals as goal

pub returns-then-same_values : goal.returns-then-same_values
returns-then-same_values c = search rules
