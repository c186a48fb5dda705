use Rattle.occ_check_lines.proofs.SizeLists.{counted_first, counted_next, counted_open, counted_last}
use Rattle.occ_check_lines.proofs.types.given_components.Goals as goal

pub loop-size-init : goal.loop-size-init
loop-size-init c = counted_first c.args.sizes.now

pub loop-size-preserved : goal.loop-size-preserved
loop-size-preserved c = counted_next _ _ _ c.loop-size-test.true c.loop-size.invariant _ _ c.in-Some.is c.saturating_mul-count.ensures

pub returns-in-None : goal.returns-in-None
returns-in-None c = counted_open _ _ _ c.loop-size-test.true c.loop-size.invariant c.in-None.is

pub returns : goal.returns
returns c = counted_last _ _ _ c.loop-size-test.false c.loop-size.invariant
