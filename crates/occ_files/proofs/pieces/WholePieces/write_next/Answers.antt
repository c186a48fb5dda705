use Rattle.std.proofs.Common.{◌∙◌, ◌++◌, ap, sym}
use Rattle.occ_files.proofs.pieces.WholePieces.write_next.Goals as goal

pub returns-clause-more : goal.returns-clause-more
returns-clause-more c = λ _. record {
  piece = c.split_at.result.0.now;
  added = c.in_ok-extend_from_slice.ensures.items;
  so = λ rest is. ap (λ l. c.split_at.result.0.now ++ l) is ∙ sym c.split_at.ensures.by_index.0;
}
