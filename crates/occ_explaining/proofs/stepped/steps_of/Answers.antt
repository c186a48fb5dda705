use Rattle.occ_explaining.proofs.Traces.{are_steps, ok_as}
use Rattle.occ_explaining.proofs.stepped.steps_of.Goals as goal

pub returns : goal.returns
returns c =
    ok_as c.whole_text.result
    (λ text is. are_steps c.args.studied.now c.args.keyboard.now c.args.choices.now text.items (c.in_ok-lines.ensures.all text.items is))
    c.whole_text.ensures
