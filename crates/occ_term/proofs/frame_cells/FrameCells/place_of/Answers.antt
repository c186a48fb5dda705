use Rattle.std.proofs.Common.{◌≡◌, ◌∙◌, ◌<◌, ◌≤◌, ◌+◌, ◌-◌, ◌%◌, ◌^◌, Some, length, sym, ap, subst, arith}
use Rattle.std.specs.Prelude.{IfSome}
use Rattle.std.specs.Arc.{arc_value}
use Rattle.occ_term.specs.Frames.{place_in}
use Rattle.occ_term.proofs.FirstRows.{in_first_row}
use Rattle.occ_term.proofs.FrameWrites.{place_within}
use Rattle.occ_term.proofs.frame_cells.FrameCells.place_of.Goals as goal

pub returns-then-behind-self-clause-is : goal.returns-then-behind-self-clause-is
returns-then-behind-self-clause-is c =
    let low : c.self.inside.first ≤ c.args.cell = omega (arith, c.ranges.cell.fits, c.self.invariant.short, c.if-behind-self.true) in
    let far : (c.args.cell + (2 ^ 64 - c.self.inside.first)) % 2 ^ 64 ≡ c.args.cell - c.self.inside.first = omega (arith, low, c.ranges.cell.fits, c.self.invariant.short) in
    let high : c.args.cell - c.self.inside.first < c.self.inside.beginning = omega (arith, far, c.if-behind-self.true) in
    ap Some far
    ∙ sym (in_first_row (arc_value c.self.inside.rows) c.self.inside.first c.self.inside.beginning c.args.cell c.self.invariant.begins c.self.invariant.counted.kept.rows_are low high)
    ∙ ap (λ xs. place_in xs c.args.cell) c.self.view_is

pub returns-then-behind-self-clause-within : goal.returns-then-behind-self-clause-within
returns-then-behind-self-clause-within c =
    subst (λ o. IfSome o (λ place. place < length c.args.self.now)) (sym (returns-then-behind-self-clause-is c)) (place_within c.args.self.now c.args.cell)
