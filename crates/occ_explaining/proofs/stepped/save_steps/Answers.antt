use Rattle.occ_explaining.proofs.Traces.{are_steps, written_as}
use Rattle.occ_explaining.proofs.stepped.save_steps.Goals as goal

pub returns-clause-saved : goal.returns-clause-saved
returns-clause-saved g c =
    written_as c.save.result (g.F.Folder.left c.args.folder.now) (g.F.Folder.left c.save.new.self) c.args.path.now
    (λ text is. are_steps c.args.studied.now c.args.keyboard.now c.args.choices.now text (c.in_ok-lines.ensures.all text is))
    c.save.ensures.saved
