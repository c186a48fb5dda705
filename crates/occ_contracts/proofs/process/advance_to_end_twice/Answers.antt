use Rattle.std.proofs.Common.{sym}
use Rattle.occ_contracts.proofs.Turning.{one_end}
use Rattle.occ_contracts.proofs.process.advance_to_end_twice.Goals as goal

pub returns : goal.returns
returns c = one_end _ _ _ _ _ _ _ (sym c.requires.same) c.advance_to_end.ensures.stops c.advance_to_end-2.ensures.stops
