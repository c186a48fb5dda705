use Rattle.occ_check_lines.proofs.EachOf.{so_far_first, so_far_next, so_far_nothing, so_far_same}
use Rattle.occ_check_lines.proofs.types.each_tag.Goals as goal

pub loop-tag-init : goal.loop-tag-init
loop-tag-init c = so_far_first _ _ _ _ _ c.new-made.ensures

pub loop-tag-preserved : goal.loop-tag-preserved
loop-tag-preserved c = so_far_next _ _ _ _ _ _ _ c.loop-tag-test.true c.tag-item.is c.loop-tag.invariant _ _ c.in_ok-push.ensures.ok c.in-Ok.ensures

pub returns-in-Err : goal.returns-in-Err
returns-in-Err c = so_far_nothing _ _ _ _ _ _ _ c.loop-tag-test.true c.tag-item.is c.loop-tag.invariant _ c.in-Err.ensures

pub returns : goal.returns
returns c = so_far_same _ _ _ _ _ c.loop-tag-test.false c.loop-tag.invariant
