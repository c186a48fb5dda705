use Rattle.std.proofs.Common.{refl}
use Rattle.occ_term.specs.Uses.{uses_of_target}
use Rattle.occ_term.specs.View.{target_of}
use Rattle.occ_usage.proofs.UseSets.{left_next, left_none}
use Rattle.occ_usage.proofs.expressions.note_targets.Goals as goal

pub returns : goal.returns
returns c = left_none _ refl _ _ _ _ c.loop-target-test.false c.loop-target.invariant

pub loop-target-preserved : goal.loop-target-preserved
loop-target-preserved c =
    left_next _ (λ x. uses_of_target (target_of x)) (λ x xs. refl) _ _ _ _ _ _ c.loop-target-test.true c.target-item.is c.loop-target.invariant c.in_ok-note_target.ensures
