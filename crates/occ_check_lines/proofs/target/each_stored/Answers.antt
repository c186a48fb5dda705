use Rattle.occ_check_lines.proofs.Zipping.{zipping_first, zipping_last, zipping_long, zipping_next, zipping_nothing, zipping_short}
use Rattle.occ_check_lines.proofs.target.each_stored.Goals as goal

pub loop-part-init : goal.loop-part-init
loop-part-init c = zipping_first _ _ _ _ _ _ c.new-made.ensures

pub loop-part-preserved : goal.loop-part-preserved
loop-part-preserved c =
    zipping_next _ _ _ _ _ _ _ _ c.loop-part.invariant _ c.loop-part-test.true c.part-item.is _ _ c.in-Some.ensures.cases.0 _ _ c.in_ok-push.ensures.ok c.in-Ok.ensures

pub returns-in_default : goal.returns-in_default
returns-in_default c = zipping_short _ _ _ _ _ _ _ _ c.loop-part.invariant _ c.loop-part-test.true c.part-item.is c.in_default.ensures.cases

pub returns-in-Err : goal.returns-in-Err
returns-in-Err c = zipping_nothing _ _ _ _ _ _ _ _ c.loop-part.invariant _ c.loop-part-test.true c.part-item.is _ _ c.in-Some.ensures.cases.0 _ c.in-Err.ensures

pub returns-in-None : goal.returns-in-None
returns-in-None c = zipping_last _ _ _ _ _ _ _ _ c.loop-part.invariant c.loop-part-test.false c.in-None.ensures.cases

pub returns-in-Some-split_first : goal.returns-in-Some-split_first
returns-in-Some-split_first c = zipping_long _ _ _ _ _ _ _ _ c.loop-part.invariant c.loop-part-test.false _ _ c.in-Some-split_first.ensures.cases.0
