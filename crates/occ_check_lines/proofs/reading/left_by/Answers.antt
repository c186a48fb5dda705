use Rattle.occ_check_lines.proofs.Leaving.{leaves_first, leaves_next, leaves_nothing, leaves_last}
use Rattle.occ_check_lines.proofs.reading.left_by.Goals as goal

pub loop-subscript-init : goal.loop-subscript-init
loop-subscript-init c = (leaves_first c.args.under_these.now c.args.sizes.now, c.requires.few)

pub left_by_one-requires : goal.left_by_one-requires
left_by_one-requires c = record { few = c.loop-subscript.invariant.1 }

pub loop-subscript-preserved : goal.loop-subscript-preserved
loop-subscript-preserved c = (leaves_next _ _ _ _ _ c.loop-subscript-test.true c.subscript-item.is c.loop-subscript.invariant.0 _ c.in-Ok.ensures.left, c.in-Ok.ensures.few)

pub returns-in-Err-clause-left : goal.returns-in-Err-clause-left
returns-in-Err-clause-left c = leaves_nothing _ _ _ _ _ c.loop-subscript-test.true c.subscript-item.is c.loop-subscript.invariant.0 _ c.in-Err.ensures.left

pub returns-clause-left : goal.returns-clause-left
returns-clause-left c = leaves_last _ _ _ _ c.loop-subscript-test.false c.loop-subscript.invariant.0

pub returns-clause-few : goal.returns-clause-few
returns-clause-few c = c.loop-subscript.invariant.1
