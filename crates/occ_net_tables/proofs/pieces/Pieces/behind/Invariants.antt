use Rattle.std.proofs.Common.{◌≡◌, length}
use Rattle.occ_net_tables.specs.Flat.{lengths_behind, shapes_behind, words_behind}
use Rattle.occ_net_tables.proofs.pieces.Pieces.behind.Given as goal

abbrev pub invariant-loop-shape : goal.invariant-loop-shape
invariant-loop-shape l = record {
  shapes : shapes_behind l.left.shapes.now ≡ shapes_behind l.fn.self.shapes.now;
  lengths : lengths_behind l.left.shapes.now l.left.lengths.now ≡ lengths_behind l.fn.self.shapes.now l.fn.self.lengths.now;
  words : words_behind l.left.shapes.now l.left.lengths.now l.left.words.now ≡ words_behind l.fn.self.shapes.now l.fn.self.lengths.now l.fn.self.words.now;
}

abbrev pub decreases-loop-shape : goal.decreases-loop-shape
decreases-loop-shape l = length l.left.shapes.now
