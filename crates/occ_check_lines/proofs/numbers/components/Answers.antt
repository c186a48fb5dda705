use Rattle.std.proofs.Common.{arith}
use Rattle.occ_check_lines.proofs.ComponentNames.{next_count, all_counted}
use Rattle.occ_check_lines.proofs.numbers.components.Goals as goal

pub loop-size-preserved : goal.loop-size-preserved
loop-size-preserved c =
    let e = c.saturating_mul-count.ensures in
    (omega (arith, e), next_count c.args.sizes.now c.loop-size.size-index c.loop-size.count _ _ c.loop-size-test.true e c.loop-size.invariant.1)

pub returns : goal.returns
returns c = all_counted c.args.sizes.now c.loop-size.size-index c.loop-size.count _ c.loop-size-test.false c.loop-size.invariant.0 c.loop-size.invariant.1
