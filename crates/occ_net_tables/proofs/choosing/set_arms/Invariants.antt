use Rattle.std.proofs.Common.{◌≡◌, drop}
use Rattle.occ_net_replay.specs.Waiting.{channels_of}
use Rattle.occ_net_tables.specs.Keys.{set_all}
use Rattle.occ_net_tables.proofs.choosing.set_arms.Given as goal

abbrev pub invariant-loop-arm : goal.invariant-loop-arm
invariant-loop-arm l = set_all (channels_of (drop l.arm-index l.arms)) l.value l.table.items ≡ set_all (channels_of l.arms) l.value l.initial.table.items
