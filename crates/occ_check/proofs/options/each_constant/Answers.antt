use Rattle.std.proofs.Common.{◌∙◌, ℤ, Some, ap, arith}
use Rattle.std.proofs.lemmas.Int.{ints, to_z-of_z}
use Rattle.occ_check_lines.proofs.EachOf.{so_far_first, so_far_next, so_far_nothing, so_far_same}
use Rattle.occ_check.proofs.options.each_constant.Goals as goal

pub loop-value-init : goal.loop-value-init
loop-value-init c = so_far_first _ _ _ _ _ c.new-made.ensures

pub loop-value-preserved : goal.loop-value-preserved
loop-value-preserved c = so_far_next _ _ _ _ _ _ _ c.loop-value-test.true c.value-item.is c.loop-value.invariant _ _ c.in_ok-push.ensures.ok (c.in-Ok.ensures.value ∙ ap (λ (v : ℤ). Some v) (grind (arith, ints, to_z-of_z)))

pub returns-in-Err : goal.returns-in-Err
returns-in-Err c = so_far_nothing _ _ _ _ _ _ _ c.loop-value-test.true c.value-item.is c.loop-value.invariant _ c.in-Err.ensures.value

pub returns : goal.returns
returns c = so_far_same _ _ _ _ _ c.loop-value-test.false c.loop-value.invariant
