use Rattle.occ_net_replay.proofs.Examples.{closed_rows, late_offer_rows, listen_rows, skip_rows}
use Rattle.occ_net_replay.proofs.laws.small_choices.Goals as goal

pub returns-clause-closed : goal.returns-clause-closed
returns-clause-closed c = closed_rows

pub returns-clause-skip : goal.returns-clause-skip
returns-clause-skip c = skip_rows

pub returns-clause-late : goal.returns-clause-late
returns-clause-late c = late_offer_rows

pub returns-clause-listening : goal.returns-clause-listening
returns-clause-listening c = listen_rows
