use Rattle.std.proofs.Common.{◌-◌, ◌<◌}
use Rattle.std.specs.Arc.{arc_value}
use Rattle.occ_proc.specs.Stretches.{InRow}
use Rattle.occ_run.proofs.stretch.take_turns.Given as goal

-- so many turns were taken
abbrev pub invariant-loop-count : goal.invariant-loop-count
invariant-loop-count g l = record {
  some : 0 < l.count;
  turns : InRow (arc_value l.body) l.fn.lease.task l.count l.task;
}

abbrev pub decreases-loop-count : goal.decreases-loop-count
decreases-loop-count g l = l.most - l.count
