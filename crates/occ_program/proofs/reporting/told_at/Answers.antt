use Rattle.std.proofs.Common.{refl}
use Rattle.occ_program.proofs.Told.{ok_map, told_new, told_old}
use Rattle.occ_program.proofs.reporting.told_at.Goals as goal

pub returns-then-is_new : goal.returns-then-is_new
returns-then-is_new c =
    ok_map c.reported.result
    (λ text. told_new c.args.words.now c.args.inputs.now c.args.answers.now c.args.place c.index-answers-place.result text.items c.requires.place c.index-answers-place.is (c.if-is_new.ensures.new refl))
    c.reported.ensures

pub returns-else-is_new : goal.returns-else-is_new
returns-else-is_new c =
    told_old c.args.words.now c.args.inputs.now c.args.answers.now c.args.place c.index-answers-place.result _ c.requires.place c.index-answers-place.is (c.if-is_new.ensures.old refl) c.new.ensures.items
