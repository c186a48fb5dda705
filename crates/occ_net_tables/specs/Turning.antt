-- What turns of a plan come to.
-- Manual: nothing; this is (own).
use Rattle.std.specs.Prelude.{Bool, List, Vec, length, take, ℕ}
use Rattle.occ_machine.specs.Compiled.{Program}
use Rattle.occ_proc.specs.Turns.{left_message}
use Rattle.occ_proc.specs.declared.scratch.Scratch.{Scratch}
use Rattle.occ_proc.specs.declared.turn_end.TurnEnd.{TurnEnd}
use Rattle.occ_net_replay.specs.declared.choice.Choice.{Choice}
use Rattle.occ_choices.specs.Plans.{choices_of}
use Rattle.occ_choices.specs.declared.plan.Plan.{Plan}
use Rattle.occ_net_tables.specs.declared.running.Keep.{Keep}
use Rattle.occ_net_tables.specs.declared.tables.Tables.{Tables}
use Rattle.occ_net_tables.specs.Rows.{SettlesEnd, TakesRow}
use Rattle.occ_net_tables.specs.Running.{HasRun}

-- the same of as many choices of the list as something was kept of
abbrev pub HasRunSoFar : {A : Type 0} → Program → List ℕ → Keep → List Choice → Vec Choice A → Tables → Type 0
HasRunSoFar p keyboard keep list kept n = HasRun p keyboard keep (take (length kept.items) list) kept.items n

-- the same, where the turn left what a scratch has
abbrev pub SettlesTurn : Program → List ℕ → (place number : ℕ) → TurnEnd → Scratch → (pick : ℕ) → Tables → Tables → Type 0
SettlesTurn p keyboard place number end s pick old new = SettlesEnd p keyboard place number end (left_message s) pick old new

-- the same by a plan, told by how many turns were taken and whether the run goes on
abbrev pub TakesRowOf : Program → List ℕ → Plan → (from : ℕ) → Tables → Tables → ℕ × Bool → Type 0
TakesRowOf p keyboard plan from old new row = TakesRow p keyboard (choices_of plan) from row.0 old new
