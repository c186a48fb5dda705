use Rattle.std.proofs.Common.{sym, ap, ◌∙◌, Some, None, w64}
use Rattle.std.specs.Prelude.{slice_set}
use Rattle.std.proofs.lemmas.Int.{to_z-of_z}
use Rattle.occ_term.proofs.FrameWrites.{with_there}
use Rattle.occ_term.proofs.frame.set_value.Goals as goal

pub returns-in-Some : goal.returns-in-Some
returns-in-Some c =
    c.set_in.ensures ∙ ap (slice_set c.args.values.now c.in-Some.place) (to_z-of_z w64 c.args.value c.ranges.value)
    ∙ sym (with_there c.args.cells.now c.args.values.now c.args.cell c.args.value (Some c.in-Some.place) (sym c.in-Some.is ∙ c.place_of.ensures.is))

pub returns-in_default : goal.returns-in_default
returns-in_default c =
    sym (with_there c.args.cells.now c.args.values.now c.args.cell c.args.value None (sym c.in_default.is ∙ c.place_of.ensures.is))
