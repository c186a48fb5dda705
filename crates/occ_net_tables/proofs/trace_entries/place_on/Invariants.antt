use Rattle.std.proofs.Common.{take}
use Rattle.occ_net_tables.specs.Passing.{HeadsElsewhere}
use Rattle.occ_net_tables.proofs.trace_entries.place_on.Given as goal

abbrev pub invariant-loop-place : goal.invariant-loop-place
invariant-loop-place l = HeadsElsewhere l.chan (take l.place l.heads)
