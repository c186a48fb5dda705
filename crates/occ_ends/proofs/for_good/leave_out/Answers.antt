use Rattle.std.proofs.Common.{◌≡◌, ◌∙◌, false, map, subst, sym}
use Rattle.std.specs.Prelude.{slice_get}
use Rattle.occ_ends.specs.Ends.{noted_for}
use Rattle.occ_ends.specs.ForGood.{task_is_left}
use Rattle.occ_ends.proofs.Leaving.{stays_without}
use Rattle.occ_ends.proofs.for_good.leave_out.Goals as goal

pub returns-then-place-len : goal.returns-then-place-len
returns-then-place-len c = λ p keyboard net h.
    let us = map noted_for c.args.uses.now in
    let n = c.args.number in
    let out : task_is_left net.tasks us c.args.flags.now.items (slice_get net.tasks n) ≡ false =
    subst (λ l. task_is_left net.tasks us l (slice_get net.tasks n) ≡ false) c.deref-2.ensures.value (sym (c.task_is_left.ensures p keyboard net h) ∙ c.if-task_is_left.false) in
    stays_without us net.tasks c.args.flags.now.items n out
