use Rattle.std.proofs.Common.{arith}
use Rattle.occ_ends.proofs.Leaving.{whole_all, whole_next}
use Rattle.occ_ends.proofs.for_good.are_whole.Goals as goal

pub loop-process-preserved : goal.loop-process-preserved
loop-process-preserved c =
    whole_next c.args.flags.now c.args.uses.now c.loop-process.process-index c.process-item.result c.loop-process-test.true c.process-item.is (c.is_whole.ensures c.if-not-is_whole.false) c.loop-process.invariant

pub returns : goal.returns
returns c = λ yes. whole_all c.args.flags.now c.args.uses.now c.loop-process.process-index (omega (arith, c.loop-process-test.false)) c.loop-process.invariant
