use Rattle.std.proofs.Common.{rules}
use Rattle.occ_text.specs.Reading.{decimal_at}
use Rattle.occ_text.proofs.number.decimal.Goals as goal

pub returns-in-Some-clause-value : goal.returns-in-Some-clause-value
unfolding decimal_at
returns-in-Some-clause-value c = search rules
