use Rattle.std.proofs.Common.{◌∙◌}
use Rattle.occ_term.proofs.FrameWrites.{row_span}
use Rattle.occ_term.proofs.frame.set_values.Goals as goal

pub returns-in-Some : goal.returns-in-Some
returns-in-Some c = c.set_row.ensures ∙ row_span c.args.cells.now c.args.held.now c.args.values.now c.args.first c.in-Some.place c.in-Some.ensures.row
