use Rattle.std.proofs.Common.{◌<◌, ◌^◌, subst, slice_index}
use Rattle.std.specs.Arc.{arc_value}
use Rattle.occ_term.proofs.RowsOfCells.{cells_below}
use Rattle.occ_term.proofs.frame_cells.FrameCells.words.Goals as goal

pub returns : goal.returns
returns c = λ k. subst (λ xs. slice_index xs k < 2 ^ 64) c.self.view_is (cells_below 0 (arc_value c.self.inside.rows) k c.self.invariant.counted.kept.rows_are)
