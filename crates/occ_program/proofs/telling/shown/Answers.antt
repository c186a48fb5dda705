use Rattle.occ_program.proofs.telling.shown.Goals as goal

pub returns : goal.returns
returns c = λ options h.
    let page = c.in_ok-text.ensures options h in
    (c.in_ok-run.run', c.in_ok-run.ensures options c.args.source.now h, rw c.from_ref.ensures.value at page)
