use Rattle.std.proofs.Common.{◌≡◌, None, drop}
use Rattle.occ_net_tables.specs.Keys.{set_all}
use Rattle.occ_net_tables.proofs.entries.clear_entries.Given as goal

abbrev pub invariant-loop-key : goal.invariant-loop-key
invariant-loop-key l = set_all (drop l.key-index l.keys) None l.table.items ≡ set_all l.keys None l.initial.table.items
