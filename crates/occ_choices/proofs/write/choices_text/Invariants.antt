use Rattle.std.proofs.Common.{◌≡◌, take}
use Rattle.occ_choices.specs.Lines.{choice_text}
use Rattle.occ_choices.proofs.write.choices_text.Given as goal

abbrev pub invariant-loop-choice : goal.invariant-loop-choice
invariant-loop-choice l = l.text.items ≡ choice_text (take l.choice-index l.choices)
