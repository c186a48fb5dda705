use Rattle.occ_net_replay.proofs.TwoTurns.{main_turns_alone}
use Rattle.occ_net_replay.proofs.laws.main_turns_alone.Goals as goal

pub returns : goal.returns
returns c = main_turns_alone
