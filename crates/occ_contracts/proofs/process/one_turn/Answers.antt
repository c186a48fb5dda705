use Rattle.occ_contracts.proofs.Turning.{one_turn}
use Rattle.occ_contracts.proofs.process.one_turn.Goals as goal

pub returns : goal.returns
returns c = one_turn c.args.one.now c.args.other.now c.requires.body c.requires.before c.after-after.ensures.turn c.after-same.ensures.turn
