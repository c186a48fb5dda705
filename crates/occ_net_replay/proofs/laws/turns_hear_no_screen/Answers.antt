use Rattle.occ_net_replay.proofs.TwoTurns.{turns_hear_no_screen}
use Rattle.occ_net_replay.proofs.laws.turns_hear_no_screen.Goals as goal

pub returns : goal.returns
returns c = turns_hear_no_screen
