use Rattle.occ_check_lines.proofs.EachOf.{so_far_first, so_far_next, so_far_nothing, so_far_same}
use Rattle.occ_check_lines.proofs.types.each_part.Goals as goal

pub loop-part-init : goal.loop-part-init
loop-part-init c = so_far_first _ _ _ _ _ c.new-made.ensures

pub loop-part-preserved : goal.loop-part-preserved
loop-part-preserved c = so_far_next _ _ _ _ _ _ _ c.loop-part-test.true c.part-item.is c.loop-part.invariant _ _ c.in_ok-push.ensures.ok c.in-Ok.ensures

pub returns-in-Err : goal.returns-in-Err
returns-in-Err c = so_far_nothing _ _ _ _ _ _ _ c.loop-part-test.true c.part-item.is c.loop-part.invariant _ c.in-Err.ensures

pub returns : goal.returns
returns c = so_far_same _ _ _ _ _ c.loop-part-test.false c.loop-part.invariant
