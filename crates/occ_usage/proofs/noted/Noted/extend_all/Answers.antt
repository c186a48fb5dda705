use Rattle.std.proofs.Common.{refl}
use Rattle.occ_usage.specs.Noted.{uses_in}
use Rattle.occ_usage.proofs.UseSets.{left_next, left_none}
use Rattle.occ_usage.proofs.noted.Noted.extend_all.Goals as goal

pub returns : goal.returns
returns c = left_none _ refl _ _ _ _ c.loop-list-test.false c.loop-list.invariant

pub loop-list-preserved : goal.loop-list-preserved
loop-list-preserved c =
    left_next _ uses_in (λ x xs. refl) _ _ _ _ _ _ c.loop-list-test.true c.list-item.is c.loop-list.invariant (rw c.as_slice.ensures at c.in_ok-extend.ensures)
