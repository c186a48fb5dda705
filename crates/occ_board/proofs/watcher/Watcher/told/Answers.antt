use Rattle.std.proofs.Common.{inr}
use Rattle.occ_board.proofs.Prefixes.{prefix_either, prefix_trans}
use Rattle.occ_board.proofs.watcher.Watcher.told.Goals as goal

pub returns-then-goes_past-clause-order : goal.returns-then-goes_past-clause-order
returns-then-goes_past-clause-order g c = rw (← c.self.view_is, ← c.note.view_is) (prefix_either _ _ _ c.if-goes_past.ensures.0 c.self.invariant.1)

pub returns-clause-order : goal.returns-clause-order
returns-clause-order g c = inr (rw (← c.self.view_is, ← c.note.view_is) (prefix_trans _ _ _ c.self.invariant.1 c.if-goes_past.ensures.0))
