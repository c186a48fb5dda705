use Rattle.occ_files.specs.Pieces.{IsWriting}
use Rattle.occ_files.proofs.saving.write_whole.Given as goal

abbrev pub invariant-loop-held : goal.invariant-loop-held
invariant-loop-held g l = record {
  can : g.P.Pieces.can_write l.pieces;
  writing : IsWriting g.P.Pieces.is_left (g.W.Write.contents l.fn.out) (g.W.Write.contents l.out) l.fn.pieces l.pieces l.held.items;
}

abbrev pub decreases-loop-held : goal.decreases-loop-held
decreases-loop-held g l = g.P.Pieces.most l.pieces
