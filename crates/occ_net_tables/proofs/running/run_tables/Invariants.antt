use Rattle.std.proofs.Common.{◌-◌, IsTrue, length, take}
use Rattle.occ_net_tables.specs.Endings.{GoesOn}
use Rattle.occ_net_tables.specs.Running.{HasRun}
use Rattle.occ_choices.specs.Plans.{choices_of}
use Rattle.occ_net_tables.proofs.running.run_tables.Given as goal

-- the first choices of the plan, as many as were kept, are used
abbrev pub invariant-loop-ending : goal.invariant-loop-ending
invariant-loop-ending l = record {
  run : HasRun l.code l.keyboard l.keep (take (length l.kept.items) (choices_of l.plan)) l.kept.items l.tables;
  open_end : IsTrue l.going → GoesOn l.code l.tables;
}

abbrev pub decreases-loop-ending : goal.decreases-loop-ending
decreases-loop-ending l = length (choices_of l.plan) - length l.kept.items
