use Rattle.std.proofs.Common.{rules, []}
use Rattle.occ_run.proofs.Moves.{begins}
use Rattle.occ_run.proofs.tokens.new_tokens.Goals as goal

pub ruled-requires : goal.ruled-requires
ruled-requires c = (search rules, (search rules, begins []))
