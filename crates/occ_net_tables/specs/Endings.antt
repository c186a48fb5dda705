-- How a run ends, and that it goes on.
-- Manual: nothing; this is (own).
use Rattle.std.specs.Prelude.{List, None, Option, ℕ, ◌≡◌}
use Rattle.occ_term.specs.declared.fault.Errors.{Errors}
use Rattle.occ_term.specs.declared.fault.Errors.TheVariants.{Halt, Stop}
use Rattle.occ_term.specs.declared.fault.Fault.{Fault}
use Rattle.occ_machine.specs.Compiled.{Program}
use Rattle.occ_net_replay.specs.Replay.{Net, ending_of}
use Rattle.occ_net_tables.specs.declared.tables.Tables.{Tables}
use Rattle.occ_net_tables.specs.Holding.{Holds}
use Rattle.occ_term.specs.declared.ending.Ending.{Ending}

-- the fault that ends a run
abbrev pub ends_by : Errors → Option Fault → Option Fault
ends_by Halt fault = fault
ends_by Stop fault = None

-- whatever state the network holds, its run goes on
abbrev pub GoesOn : Program → Tables → Type 0
GoesOn p n = (keyboard : List ℕ) (net : Net) → Holds p keyboard n net → ending_of p.errors net ≡ None

-- and it ends so, if it does
abbrev pub EndsAs : Program → Tables → Option Ending → Type 0
EndsAs p n ending = (keyboard : List ℕ) (net : Net) → Holds p keyboard n net → ending ≡ ending_of p.errors net
