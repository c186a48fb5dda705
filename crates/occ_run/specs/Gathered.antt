-- What the workers of a run gather.
-- Manual: nothing; this is (own).
use Rattle.std.specs.Prelude.{IfOk, List, None, Result, Some, false, length, replicate, ℕ, ◌≡◌, ◌≤◌}
use Rattle.occ_machine.specs.Compiled.{Program}
use Rattle.occ_net_replay.specs.Replay.{Net, Replays, ending_of}
use Rattle.occ_net.specs.Networks.{Past}
use Rattle.occ_net.specs.Outcomes.{Shows}
use Rattle.occ_net.specs.declared.outcome.Outcome.{Outcome}
use Rattle.occ_run.specs.declared.fault.RunFault.{RunFault}
use Rattle.occ_run.specs.declared.fault.RunFault.TheVariants as fault
use Rattle.occ_run.specs.declared.progress.Progress.{Progress}
use Rattle.occ_run.specs.declared.progress.Stop.{Stop}
use Rattle.occ_run.specs.declared.progress.Stop.TheVariants as stop

-- The workers of a run of this code on this keyboard bring its network to this state: no process of it is out, and it has at most `limit`
-- choices, and just so many where their replay goes on.
pub record IsGathered (p : Program) (keyboard : List ℕ) (limit : ℕ) (n : Past) : Type 0 where
  pub program : n.program ≡ p
  pub bytes : n.keyboard ≡ keyboard
  pub none_out : n.out ≡ replicate (length p.bodies) false
  pub net : Net
  pub replays : Replays p keyboard n.choices net
  pub few : length n.choices ≤ limit
  pub whole : ending_of p.errors net ≡ None → length n.choices ≡ limit

-- The outcome of a run of this code on this keyboard carries the choices of the network that its workers gathered, and shows the state
-- that it is in.
pub record IsRunOf (p : Program) (keyboard : List ℕ) (limit : ℕ) (o : Outcome) : Type 0 where
  pub network : IsGathered p keyboard limit o.network
  pub choices : o.choices.items ≡ o.network.choices
  pub shows : Shows network.net o

-- whatever run's workers gathered this network, what is given is the outcome of that run
abbrev pub GivesOutcome : {E : Type 0} → Past → Result Outcome E → Type 0
GivesOutcome n r = (p : Program) (keyboard : List ℕ) (limit : ℕ) → IsGathered p keyboard limit n → IfOk r (IsRunOf p keyboard limit)

-- the network was made of this code and this keyboard, and has at most `limit` choices
pub record IsOfRun (p : Program) (keyboard : List ℕ) (limit : ℕ) (n : Past) : Type 0 where
  pub program : n.program ≡ p
  pub bytes : n.keyboard ≡ keyboard
  pub few : length n.choices ≤ limit

-- what a run that stopped so answers
abbrev pub stop_fault : Stop → RunFault
stop_fault stop.Spawn = fault.Spawn
stop_fault stop.Memory = fault.Memory

-- why a run that is over has no network to give: it stopped so
abbrev pub IsNoRun : Progress → RunFault → Type 0
IsNoRun b fault.BadWorkers = ⊥
IsNoRun b fault.Foreign = ⊥
IsNoRun b fault.Spawn = b.stop ≡ Some stop.Spawn
IsNoRun b fault.Memory = b.stop ≡ Some stop.Memory
