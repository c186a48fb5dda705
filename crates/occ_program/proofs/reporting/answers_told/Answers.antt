use Rattle.std.proofs.Common.{◌∙◌, ◌++◌, ap}
use Rattle.occ_program.proofs.Told.{tells_more}
use Rattle.occ_program.proofs.reporting.answers_told.Goals as goal

pub loop-place-preserved : goal.loop-place-preserved
loop-place-preserved c =
    tells_more c.args.words.now c.args.inputs.now c.args.answers.now c.loop-place.place c.loop-place.text.items c.in_ok-part.part.items _ c.loop-place.invariant c.in_ok-part.ensures
    (c.in_ok-extend_from_slice.ensures.items ∙ ap (λ l. c.loop-place.text.items ++ l) c.as_slice.ensures.value)
