use Rattle.std.proofs.Common.{◌≡◌, ◌∙◌, ap, ◌+◌, ◌-◌, pos, replicate}
use Rattle.occ_term.specs.Frames.{span_with, values_with}
use Rattle.occ_term.proofs.FrameWrites.{zeros_step}
use Rattle.occ_term.proofs.frame.clear_each.Goals as goal

pub loop-i-preserved : goal.loop-i-preserved
loop-i-preserved c =
    let cell : c.from.result + c.from-in-loop-i.result ≡ c.args.first + c.loop-i.i = ap (λ m. m + c.from-in-loop-i.result) c.from.ensures ∙ ap (λ m. c.args.first + m) c.from-in-loop-i.ensures in
    ap (λ held. span_with c.args.cells.now held (c.args.first + (c.loop-i.i + 1)) (replicate (c.args.count - (c.loop-i.i + 1)) (pos 0)))
    (c.set_value.ensures ∙ ap (λ m. values_with c.args.cells.now c.loop-i.held m (pos 0)) cell)
    ∙ zeros_step c.args.cells.now c.loop-i.held c.args.first c.loop-i.i c.args.count c.loop-i-test.true
    ∙ c.loop-i.invariant
