use Rattle.std.proofs.Common.{sym}
use Rattle.occ_contracts.proofs.Turning.{one_place}
use Rattle.occ_contracts.proofs.process.advance_twice.Goals as goal

pub returns : goal.returns
returns c = one_place _ _ _ _ _ _ _ (sym c.requires.same) c.advance.ensures c.advance-2.ensures
