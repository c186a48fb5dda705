use Rattle.std.proofs.Common.{rules}
use Rattle.occ_text.specs.Reading.{name_at}
use Rattle.occ_text.proofs.words.name_or_key.Goals as goal

pub returns-in-Some-clause-value : goal.returns-in-Some-clause-value
unfolding name_at
returns-in-Some-clause-value c = search rules
