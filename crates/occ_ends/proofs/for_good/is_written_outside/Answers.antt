use Rattle.std.proofs.Common.{◌∙◌, arith, refl, sym}
use Rattle.occ_ends.proofs.Leaving.{used_here, used_next, used_none}
use Rattle.occ_ends.proofs.for_good.is_written_outside.Goals as goal

pub loop-process-init : goal.loop-process-init
loop-process-init c = refl

pub loop-process-preserved : goal.loop-process-preserved
loop-process-preserved c =
    used_next (λ u. u.outs) c.args.flags.now c.args.chan c.args.uses.now c.loop-process.process-index c.process-item.result c.loop-process-test.true c.process-item.is (sym c.writes_outside.ensures ∙ c.if-writes_outside.false) c.loop-process.invariant

pub returns-then-writes_outside : goal.returns-then-writes_outside
returns-then-writes_outside c =
    used_here (λ u. u.outs) c.args.flags.now c.args.chan c.args.uses.now c.loop-process.process-index c.process-item.result c.loop-process-test.true c.process-item.is (sym c.writes_outside.ensures ∙ c.if-writes_outside.true) c.loop-process.invariant

pub returns : goal.returns
returns c = used_none (λ u. u.outs) c.args.flags.now c.args.chan c.args.uses.now c.loop-process.process-index (omega (arith, c.loop-process-test.false)) c.loop-process.invariant
