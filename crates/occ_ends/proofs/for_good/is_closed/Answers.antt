use Rattle.std.proofs.Common.{arith, map}
use Rattle.occ_ends.specs.Ends.{noted_for}
use Rattle.occ_ends.proofs.Leaving.{closed_by}
use Rattle.occ_ends.proofs.for_good.is_closed.Goals as goal

pub returns-then-are_left : goal.returns-then-are_left
returns-then-are_left c = λ whole keyboard net h.
    closed_by (map noted_for c.args.uses.now) net.tasks c.args.flags.now c.args.count
    (omega (arith, c.if-flags-count.false)) (c.are_left.ensures c.if-are_left.true c.args.code.now keyboard net h) (c.are_whole.ensures whole)
