-- What is printed where the workers gave no answer.
-- Manual: nothing; this is (own).
use Rattle.std.specs.Prelude.{List, codes, ℕ}
use Rattle.occ_run.specs.declared.fault.RunFault.{RunFault}
use Rattle.occ_run.specs.declared.fault.RunFault.TheVariants.{Foreign, BadWorkers, Spawn, Memory}

abbrev pub run_line : RunFault → List ℕ
run_line Foreign = codes "foreign outcome"
run_line BadWorkers = codes "the number of workers is 1 to 64"
run_line Spawn = codes "thread refused"
run_line Memory = codes "memory"
