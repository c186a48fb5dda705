use Rattle.occ_check_lines.proofs.EachOf.{so_far_first, so_far_last, so_far_next, so_far_nothing}
use Rattle.occ_check_lines.proofs.action.each_variable.Goals as goal

pub loop-variable-init : goal.loop-variable-init
loop-variable-init c = so_far_first _ _ _ _ _ c.new-all.ensures.items

pub loop-variable-preserved : goal.loop-variable-preserved
loop-variable-preserved c = so_far_next _ _ _ _ _ _ _ c.loop-variable-test.true c.variable-item.is c.loop-variable.invariant _ _ c.in_ok-push.ensures.items c.in-Ok.ensures.variable

pub returns-in-Err : goal.returns-in-Err
returns-in-Err c = so_far_nothing _ _ _ _ _ _ _ c.loop-variable-test.true c.variable-item.is c.loop-variable.invariant _ c.in-Err.ensures.variable

pub returns : goal.returns
returns c = so_far_last _ _ _ _ _ _ c.loop-variable-test.false c.loop-variable.invariant
