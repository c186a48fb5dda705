-- The lines that say why workers gave no outcome.
-- Manual: nothing; this is (own).
use Rattle.std.specs.Prelude.{List, ℕ, codes}
use Rattle.occ_run.specs.declared.fault.RunFault.{RunFault}
use Rattle.occ_run.specs.declared.fault.RunFault.TheVariants.{Foreign, BadWorkers, Spawn, Memory}

abbrev pub fault_text : RunFault → List ℕ
fault_text Foreign = codes "refused 80 Foreign"
fault_text BadWorkers = codes "refused 81 BadWorkers"
fault_text Spawn = codes "refused 88 Spawn"
fault_text Memory = codes "refused 89 Memory"
