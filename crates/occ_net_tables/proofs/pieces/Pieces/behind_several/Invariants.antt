use Rattle.occ_net_tables.specs.Passing.{ArePassed}
use Rattle.occ_net_tables.proofs.pieces.Pieces.behind_several.Given as goal

abbrev pub invariant-loop-passed : goal.invariant-loop-passed
invariant-loop-passed l = ArePassed l._passed l.fn.self l.left
