use Rattle.std.proofs.Common.{◌∙◌}
use Rattle.occ_choices.proofs.Files.{one_more}
use Rattle.occ_choices.proofs.write.choices_text.Goals as goal

pub loop-choice-preserved : goal.loop-choice-preserved
loop-choice-preserved c = c.in_ok-write_line.ensures ∙ one_more c.args.choices.now c.loop-choice.choice-index _ c.loop-choice.text.items c.loop-choice-test.true c.loop-choice.invariant
