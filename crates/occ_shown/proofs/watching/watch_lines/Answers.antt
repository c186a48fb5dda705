use Rattle.std.proofs.Common.{[], refl}
use Rattle.occ_shown.specs.Answers.{line_text, trace_text}
use Rattle.occ_shown.proofs.Texts.{IsText, text_step}
use Rattle.occ_shown.proofs.watching.watch_lines.Goals as goal

pub loop-shown-preserved : goal.loop-shown-preserved
loop-shown-preserved c =
    let text : IsText line_text trace_text = record { none = refl; more = λ e es. refl } in
    text_step text c.args.list.now c.loop-shown.shown-index c.shown-item.result c.loop-shown-test.true c.shown-item.is [] c.loop-shown.lines.items _ c.loop-shown.invariant c.in_ok-write_shown.ensures
