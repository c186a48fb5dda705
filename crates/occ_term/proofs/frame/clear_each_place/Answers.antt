use Rattle.std.proofs.Common.{◌∙◌, ap, ◌+◌, ◌-◌, pos, replicate}
use Rattle.occ_term.specs.Frames.{row_with}
use Rattle.occ_term.proofs.FrameWrites.{zeros_in_row}
use Rattle.occ_term.proofs.frame.clear_each_place.Goals as goal

pub loop-i-preserved : goal.loop-i-preserved
loop-i-preserved c =
    ap (λ held. row_with held (c.args.place + (c.loop-i.i + 1)) (replicate (c.args.count - (c.loop-i.i + 1)) (pos 0))) c.set_in.ensures
    ∙ zeros_in_row c.loop-i.held c.args.place c.loop-i.i c.args.count c.loop-i-test.true
    ∙ c.loop-i.invariant
