use Rattle.std.proofs.Common.{◌∙◌}
use Rattle.occ_explaining.proofs.Traces.{is_trace, written_as}
use Rattle.occ_explaining.proofs.tracing.save_trace.Goals as goal

pub returns-clause-saved : goal.returns-clause-saved
returns-clause-saved g c =
    written_as c.save.result (g.F.Folder.left c.args.folder.now) (g.F.Folder.left c.save.new.self) c.args.path.now
    (λ text is.
    is_trace c.args.studied.now c.args.keyboard.now c.args.choices.now c.args.form c.in_ok-outcome.outcome c.channels.result.now text c.in_ok-outcome.ensures c.channels.ensures
    (is ∙ c.new-pieces.ensures.text))
    c.save.ensures.saved
