use Rattle.std.proofs.Common.{◌≡◌, ◌∙◌, ap, arith, length, sym}
use Rattle.occ_ends.proofs.Flagging.{all_flags}
use Rattle.occ_ends.proofs.endless.endless_in.Goals as goal

pub returns : goal.returns
returns c = λ keyboard net h.
    let (many, flagged) = c.loop-number.invariant in
    let all : length net.tasks ≡ c.args.count = ap length h.tasks ∙ h.sized.tasks_are ∙ sym c.requires in
    all_flags (flagged keyboard net h) (many ∙ sym all) (omega (arith, many, c.loop-number-test.false))
