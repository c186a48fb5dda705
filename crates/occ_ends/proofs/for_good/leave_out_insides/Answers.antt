use Rattle.std.proofs.Common.{map}
use Rattle.occ_ends.specs.Ends.{noted_for}
use Rattle.occ_explore_laws.proofs.Lists.{at_index}
use Rattle.occ_ends.proofs.ClosedSets.{read_mapped}
use Rattle.occ_ends.proofs.for_good.leave_out_insides.Goals as goal

pub loop-process-init : goal.loop-process-init
loop-process-init c = λ tasks set closed within. within

pub loop-process-preserved : goal.loop-process-preserved
loop-process-preserved c = λ tasks set closed within.
    let ps = c.args.uses.now in
    let i = c.loop-process.process-index in
    let p = c.process-item.result in
    c.leave_out_within.ensures (map noted_for ps) tasks i (read_mapped noted_for ps i p (at_index ps i p c.loop-process-test.true c.process-item.is)) set closed (c.loop-process.invariant tasks set closed within)
