use Rattle.std.proofs.Common.{◌≡◌, ◌∙◌, sym, ap}
use Rattle.std.specs.Arc.{arc_value}
use Rattle.occ_term.specs.CellRows.{cells_in}
use Rattle.occ_term.proofs.RowsOfCells.{same_kept}
use Rattle.occ_term.proofs.frame_cells.FrameCells.is_same.Goals as goal

pub returns : goal.returns
returns c =
    let own : c.as_slice.result.now ≡ arc_value c.self.inside.rows = c.as_slice.ensures ∙ c.deref.ensures in
    let others : c.as_slice-2.result.now ≡ arc_value c.other.inside.rows = c.as_slice-2.ensures ∙ c.deref-2.ensures in (
      λ t. sym c.self.view_is ∙ ap cells_in (sym own ∙ c.same_rows.ensures.0 t ∙ others) ∙ c.other.view_is,
      λ e. c.same_rows.ensures.1
          (own ∙ same_kept (arc_value c.self.inside.rows) (arc_value c.other.inside.rows) _ _ c.self.invariant.counted.kept c.other.invariant.counted.kept (c.self.view_is ∙ e ∙ sym c.other.view_is) ∙ sym others),
    )
