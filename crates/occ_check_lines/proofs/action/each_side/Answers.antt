use Rattle.occ_check_lines.proofs.Zipping.{zipping_first, zipping_last, zipping_long, zipping_next, zipping_nothing, zipping_short}
use Rattle.occ_check_lines.proofs.action.each_side.Goals as goal

pub loop-variable-init : goal.loop-variable-init
loop-variable-init c = zipping_first _ _ _ _ _ _ c.new-made.ensures

pub loop-variable-preserved : goal.loop-variable-preserved
loop-variable-preserved c =
    zipping_next _ _ _ _ _ _ _ _ c.loop-variable.invariant _ c.loop-variable-test.true c.variable-item.is _ _ c.in-Some.ensures.cases.0 _ _ c.in_ok-push.ensures.ok c.in-Ok.ensures

pub returns-in_default : goal.returns-in_default
returns-in_default c = zipping_short _ _ _ _ _ _ _ _ c.loop-variable.invariant _ c.loop-variable-test.true c.variable-item.is c.in_default.ensures.cases

pub returns-in-Err : goal.returns-in-Err
returns-in-Err c = zipping_nothing _ _ _ _ _ _ _ _ c.loop-variable.invariant _ c.loop-variable-test.true c.variable-item.is _ _ c.in-Some.ensures.cases.0 _ c.in-Err.ensures

pub returns-in-None : goal.returns-in-None
returns-in-None c = zipping_last _ _ _ _ _ _ _ _ c.loop-variable.invariant c.loop-variable-test.false c.in-None.ensures.cases

pub returns-in-Some-split_first : goal.returns-in-Some-split_first
returns-in-Some-split_first c = zipping_long _ _ _ _ _ _ _ _ c.loop-variable.invariant c.loop-variable-test.false _ _ c.in-Some-split_first.ensures.cases.0
