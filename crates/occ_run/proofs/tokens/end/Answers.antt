use Rattle.std.proofs.Common.{rules}
use Rattle.occ_run.proofs.Moves.{ends}
use Rattle.occ_run.proofs.tokens.end.Goals as goal

pub split_pass-requires : goal.split_pass-requires
split_pass-requires c = (search rules, (search rules, (c.requires.own, ends _ _ c.requires.keeps)))
