use Rattle.std.proofs.Common.{◌∙◌}
use Rattle.occ_explaining.proofs.Traces.{is_trace, ok_as}
use Rattle.occ_explaining.proofs.tracing.trace_of.Goals as goal

pub returns : goal.returns
returns c =
    ok_as c.whole_text.result
    (λ text is.
    is_trace c.args.studied.now c.args.keyboard.now c.args.choices.now c.args.form c.in_ok-outcome.outcome c.channels.result.now text.items c.in_ok-outcome.ensures c.channels.ensures
    (is ∙ c.new-pieces.ensures.text))
    c.whole_text.ensures
