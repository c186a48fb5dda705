use Rattle.std.proofs.Common.{arith, subst}
use Rattle.occ_explaining.specs.Calls.{named}
use Rattle.occ_explaining.specs.Passes.{IsPass}
use Rattle.occ_explaining.proofs.Rounds.{first_round, last_round, next_round}
use Rattle.occ_explaining.proofs.reached.reached_from.Goals as goal

pub loop-left-init : goal.loop-left-init
loop-left-init c = first_round (named c.args.main) c.args.calls.items c.in_ok-reached.reached.keys c.in_ok-reached.ensures

pub returns-then-len : goal.returns-then-len
returns-then-len c =
    let old = c.loop-left.reached.keys in
    let new = c.pass.new.reached.keys in
    let others = c.in_ok-others.others.items in
    let pass = subst (λ cs. IsPass cs old new others) c.as_slice.ensures.value c.in_ok-others.ensures in
    last_round (named c.args.main) c.args.calls.items old new c.loop-left.left.items others c.loop-left.invariant pass (omega (arith, c.if-len.true, c.len.ensures, c.len-in-loop-left.ensures))

pub loop-left-preserved : goal.loop-left-preserved
loop-left-preserved c =
    let old = c.loop-left.reached.keys in
    let new = c.pass.new.reached.keys in
    let others = c.in_ok-others.others.items in
    let pass = subst (λ cs. IsPass cs old new others) c.as_slice.ensures.value c.in_ok-others.ensures in
    next_round (named c.args.main) c.args.calls.items old new c.loop-left.left.items others c.loop-left.invariant pass
