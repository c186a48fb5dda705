-- What outcomes and leases say.
-- Manual: nothing; this is (own).
use Rattle.std.specs.Prelude.{ℕ, List}
use Rattle.std.specs.Arc.{arc_value}
use Rattle.occ_machine.specs.Machine.{Body}
use Rattle.occ_machine.specs.declared.task.Task.{Task}
use Rattle.occ_net.specs.declared.leasing.Lease.{Lease}
use Rattle.occ_net.specs.declared.outcome.Outcome.{Outcome}
use Rattle.occ_net.specs.Networks.{Past}
use Rattle.occ_net_replay.specs.declared.choice.Choice.{Choice}
use Rattle.occ_term.specs.declared.ending.Ending.{Ending}

-- what an outcome says: its ending, the choices, the bytes of both streams, and what its network was made of
pub record Told : Type 0 where
  pub ending : Ending
  pub choices : List Choice
  pub screen : List ℕ
  pub error : List ℕ
  pub network : Past

abbrev pub told : Outcome → Told
told o = record { ending = o.ending; choices = o.choices.items; screen = o.screen.items; error = o.error.items; network = o.network }

-- the body and the task that are leased
abbrev pub leased_of : Lease → Body × Task
leased_of l = (arc_value l.body, l.task)
