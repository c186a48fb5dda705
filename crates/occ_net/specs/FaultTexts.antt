-- The lines that refuse a turn.
-- Manual: nothing; this is (own).
use Rattle.std.specs.Prelude.{List, ℕ, codes}
use Rattle.occ_net.specs.declared.fault.NetFault.{NetFault}
use Rattle.occ_net.specs.declared.fault.NetFault.TheVariants.{Stale, Over, Memory}

abbrev pub fault_text : NetFault → List ℕ
fault_text (Stale _ _) = codes "refused 70 Stale"
fault_text (Over _) = codes "refused 71 Over"
fault_text Memory = codes "refused 79 Memory"
