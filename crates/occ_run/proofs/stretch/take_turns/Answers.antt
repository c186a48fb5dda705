use Rattle.std.proofs.Common.{◌+◌, arith}
use Rattle.std.specs.Arc.{arc_value}
use Rattle.occ_run.proofs.Rows.{may_follow, one_more}
use Rattle.occ_run.proofs.stretch.take_turns.Goals as goal

pub loop-count-preserved : goal.loop-count-preserved
loop-count-preserved g c =
    let l = c.loop-count in
    record {
      some = omega arith;
      turns = one_more (arc_value c.args.lease.body) c.args.lease.task l.task c.go_on-in-loop-count.new.task l.count (l.count + 1) (omega arith) l.invariant.turns (may_follow l.count l.task (c.is_ready.ensures.0 c.if-is_ready.true)) c.in-Ok.ensures;
    }
