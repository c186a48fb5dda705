use Rattle.occ_check.proofs.OneLine.{names_there}
use Rattle.occ_check.proofs.one_line.names_at.Goals as goal

pub returns : goal.returns
returns c = names_there c.scope.result c.args.blocks.now.blocks.items c.args.at c.scope.ensures.0 c.scope.ensures.1
