use Rattle.std.proofs.Common.{◌∙◌, ap, sym, subst, length, arith, ◌<◌}
use Rattle.std.specs.Prelude.{IfSome}
use Rattle.occ_term.specs.Frames.{place_in}
use Rattle.occ_term.proofs.FrameWrites.{place_within}
use Rattle.occ_term.specs.CellRows.{cells_in}
use Rattle.occ_term.proofs.frame_cells.FrameCells.place_in_rows.Goals as goal

pub place_among_rising-requires-clause-few : goal.place_among_rising-requires-clause-few
place_among_rising-requires-clause-few c =
    let long = ap (λ rs. length (cells_in rs)) (c.as_slice-rows.ensures ∙ c.deref.ensures) in
    omega (arith, long, c.self.invariant.counted.count_is, c.self.invariant.counted.few)

pub first_place-requires-clause-few : goal.first_place-requires-clause-few
first_place-requires-clause-few c =
    let long = ap (λ rs. length (cells_in rs)) (c.as_slice-rows.ensures ∙ c.deref.ensures) in
    omega (arith, long, c.self.invariant.counted.count_is, c.self.invariant.counted.few)

pub returns-then-self-clause-within : goal.returns-then-self-clause-within
returns-then-self-clause-within c =
    let same = c.place_among_rising.ensures ∙ ap (λ rs. place_in (cells_in rs) c.args.cell) (c.as_slice-rows.ensures ∙ c.deref.ensures) ∙ ap (λ xs. place_in xs c.args.cell) c.self.view_is in
    subst (λ o. IfSome o (λ place. place < length c.args.self.now)) (sym same) (place_within c.args.self.now c.args.cell)

pub returns-else-self-clause-within : goal.returns-else-self-clause-within
returns-else-self-clause-within c =
    let same = c.first_place.ensures ∙ ap (λ rs. place_in (cells_in rs) c.args.cell) (c.as_slice-rows.ensures ∙ c.deref.ensures) ∙ ap (λ xs. place_in xs c.args.cell) c.self.view_is in
    subst (λ o. IfSome o (λ place. place < length c.args.self.now)) (sym same) (place_within c.args.self.now c.args.cell)
