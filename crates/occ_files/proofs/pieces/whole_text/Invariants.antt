use Rattle.std.proofs.Common.{List, ℕ, ◌++◌}
use Rattle.occ_files.proofs.pieces.whole_text.Given as goal

-- with what is left behind it, it is what was left at the beginning
abbrev pub invariant-loop-text : goal.invariant-loop-text
invariant-loop-text g l = record {
  can : g.P.Pieces.can_write l.pieces;
  so : (rest : List ℕ) → g.P.Pieces.is_left l.pieces rest → g.P.Pieces.is_left l.fn.pieces (l.text.items ++ rest);
}

abbrev pub decreases-loop-text : goal.decreases-loop-text
decreases-loop-text g l = g.P.Pieces.most l.pieces
