use Rattle.std.proofs.Common.{◌∙◌, ◌-◌, arith, subst, sym}
use Rattle.occ_explaining.proofs.Passing.{Passing, at_end, behind, cut_call, fired, kept, passed}
use Rattle.occ_explaining.proofs.reached.pass.Goals as goal

pub loop-at-preserved-in-Continue-1 : goal.loop-at-preserved-in-Continue-1
loop-at-preserved-in-Continue-1 c =
    let calls = c.args.calls.now in
    let at = c.loop-at.at in
    let call = c.index-calls-at.result in
    let cut = cut_call calls (at - 1) call (omega (arith, c.loop-at-test.true, c.loop-at.invariant.within)) c.index-calls-at.is in
    fired calls c.args.reached.now.keys c.loop-at.reached.keys c.reach.new.reached.keys c.loop-at.others.items (at - 1) call cut (sym c.is_reached.ensures ∙ c.if-is_reached.true)
    c.in_ok-reach.ensures.0 c.in_ok-reach.ensures.1 c.in_ok-reach.ensures.2 (omega (arith, c.loop-at-test.true, c.loop-at.invariant.within)) (behind at c.loop-at-test.true c.loop-at.invariant)

pub loop-at-preserved : goal.loop-at-preserved
loop-at-preserved c =
    let calls = c.args.calls.now in
    let at = c.loop-at.at in
    let call = c.index-calls-at.result in
    let cut = cut_call calls (at - 1) call (omega (arith, c.loop-at-test.true, c.loop-at.invariant.within)) c.index-calls-at.is in
    subst (λ os. Passing calls c.args.reached.now.keys c.loop-at.reached.keys os (at - 1)) (sym c.in_ok-push.ensures.items)
    (kept calls c.args.reached.now.keys c.loop-at.reached.keys c.loop-at.others.items (at - 1) call cut (sym c.is_reached.ensures ∙ c.if-is_reached.false)
    (omega (arith, c.loop-at-test.true, c.loop-at.invariant.within)) (behind at c.loop-at-test.true c.loop-at.invariant))

pub returns : goal.returns
returns c = passed c.args.calls.now c.args.reached.now.keys c.loop-at.reached.keys c.loop-at.others.items (at_end c.loop-at.at c.loop-at-test.false c.loop-at.invariant)
