use Rattle.std.proofs.Common.{◌≡◌, ◌∙◌, ap, arith, length, map, rules, subst, sym}
use Rattle.std.specs.Prelude.{min}
use Rattle.occ_ends.specs.Ends.{AreDue, noted_for}
use Rattle.occ_ends.specs.Endless.{AreEndless, ComeAgain, flag}
use Rattle.occ_ends.proofs.LeftOnes.{are_halted, are_unfinished, circle_left}
use Rattle.occ_ends.proofs.kinds.left_in.Goals as goal

pub returns : goal.returns
returns c = λ keyboard net h.
    let p = c.args.code.now in
    let us = map noted_for c.args.uses.now in
    let again = flag c.as_slice.result.now in
    let same : c.in-Ok.count ≡ length p.bodies = search rules in
    let many : c.in-Ok.count ≡ length net.tasks = same ∙ sym (ap length h.tasks ∙ h.sized.tasks_are) in
    let below : min c.in-Ok.count 4294967294 ≡ length net.tasks = omega (arith, many, c.if-count-gt-MOST.false) in
    let come : ComeAgain p.bodies net.tasks again = subst (λ l. ComeAgain p.bodies net.tasks (flag l)) (sym c.as_slice.ensures.value) (c.in_ok-again.ensures keyboard net h) in
    let due : AreDue us again net.tasks (length p.channels) c.in_ok-ends.ends = rw c.channels-channels.ensures at c.in_ok-ends.ensures p keyboard net h in
    record {
      circle = circle_left us p net.tasks again (min c.in-Ok.count 4294967294) c.in_ok-ends.ends c.in_ok-circle.circle.items come due below (c.in_ok-circle.ensures p keyboard net h);
      halted = are_halted net.tasks c.in-Ok.count c.in_ok-halted.halted.items many (c.in_ok-halted.ensures p keyboard net h);
      unfinished = are_unfinished p.bodies net.tasks c.deref.result.now c.in-Ok.count c.in_ok-unfinished.unfinished.items many (subst (AreEndless p.bodies net.tasks) (sym c.deref.ensures.value) (c.in_ok-endless.ensures keyboard net h))
          (c.in_ok-unfinished.ensures p keyboard net h);
    }
