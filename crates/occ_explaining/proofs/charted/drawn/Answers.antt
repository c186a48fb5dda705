use Rattle.std.proofs.Common.{◌∙◌, ◌<◌, ◌^◌, length, map, rules}
use Rattle.occ_choices.specs.Plans.{choices_of}
use Rattle.occ_explaining.proofs.ChartsOfRuns.{replay_chart}
use Rattle.occ_explaining.proofs.charted.drawn.Goals as goal

pub returns : goal.returns
returns c =
    let ran = c.in_ok-ending.field-0 in
    let small : length ran.kept.items < 2 ^ 64 = search rules in
    replay_chart c.args.code.now c.args.keyboard.now (choices_of c.args.plan.now) c.args.left_out.now c.args.part (map (λ v. v.items) c.args.names.now) c.args.circle.now ran c.in_ok-ending.ensures small c.trace.result.now (λ k net h. c.trace.ensures c.args.code.now k net h)
    c.as_slice.result.now c.min-count.result c.len-processes.result c.min-count.ensures c.len-processes.ensures (λ q k net h. c.as_slice.ensures.value ∙ (rw c.channels-channels.ensures at c.in_ok-stubs.ensures q k net h)) _
    (rw c.channels-channels.ensures at c.in_ok-bytes.ensures)
