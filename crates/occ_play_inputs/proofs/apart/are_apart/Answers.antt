use Rattle.occ_play_inputs.proofs.apart.are_apart.Goals as goal

pub returns-then-texts_are_apart : goal.returns-then-texts_are_apart
returns-then-texts_are_apart c = λ beside. (c.texts_are_apart.ensures c.if-texts_are_apart.true, c.are_beside.ensures beside)
