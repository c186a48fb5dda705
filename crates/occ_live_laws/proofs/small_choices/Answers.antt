use Rattle.occ_live_laws.proofs.Examples.{deaf_rows, hearing_rows}
use Rattle.occ_live_laws.proofs.small_choices.Goals as goal

pub returns-clause-deaf : goal.returns-clause-deaf
returns-clause-deaf c = deaf_rows

pub returns-clause-hearing : goal.returns-clause-hearing
returns-clause-hearing c = hearing_rows
