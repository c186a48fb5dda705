use Rattle.std.proofs.Common.{◌∙◌, ap, length, arith}
use Rattle.occ_term.specs.CellRows.{cells_in}
use Rattle.occ_term.proofs.frame_cells.FrameCells.row_of.Goals as goal

pub overflow_add-result : goal.overflow_add-result
overflow_add-result c =
    let long = ap (λ rs. length (cells_in rs)) (c.as_slice.ensures ∙ c.deref.ensures) in
    let within = c.in_ok-row.ensures.some.within in
    let begun = c.in_ok-row.ensures.some.begun in
    let short = c.in_ok-row.ensures.some.before_end in
    record { fits = omega (arith, long, within, begun, short, c.self.invariant.counted.count_is, c.self.invariant.counted.few) }

pub returns-then-count-begin-clause-few : goal.returns-then-count-begin-clause-few
returns-then-count-begin-clause-few c =
    let long = ap (λ rs. length (cells_in rs)) (c.as_slice.ensures ∙ c.deref.ensures) in
    let within = c.in_ok-row.ensures.some.within in
    let begun = c.in_ok-row.ensures.some.begun in
    let short = c.in_ok-row.ensures.some.before_end in
    omega (arith, long, within, begun, short, c.count.ensures, c.if-count-begin.true, c.self.invariant.counted.count_is, c.self.invariant.counted.few)
