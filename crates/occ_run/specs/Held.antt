-- What lies under the lock, beside the token that knows which turns are out.
-- Manual: nothing; this is (own).
use Rattle.std.specs.Prelude.{IfErr, IfOk, IsTrue, List, Result, Some, [], slice_get, true, ℕ, ◌<◌, ◌≡◌}
use Rattle.std.specs.Arc.{arc_value}
use Rattle.atomic_table.specs.Seated.{TableId}
use Rattle.occ_term.specs.declared.fault.Errors.TheVariants.{Halt}
use Rattle.occ_machine.specs.Compiled.{Program}
use Rattle.occ_machine.specs.declared.task.Task.{Task}
use Rattle.occ_machine.specs.Machine.{Body}
use Rattle.occ_net_replay.specs.Replay.{HasTask, Net, may_go}
use Rattle.occ_net.specs.declared.leasing.Lease.{Lease}
use Rattle.occ_net.specs.Leases.{CanTakeTurn}
use Rattle.occ_net.specs.Networks.{IsState, Past, is_out}
use Rattle.occ_proc.specs.Stretches.{InRow}
use Rattle.occ_net.specs.Stretches.{CanGoOn}
use Rattle.occ_run.specs.Gathered.{IsOfRun}
use Rattle.occ_run.specs.declared.progress.Progress.{Progress}
use Rattle.occ_run.specs.declared.stretch.Stretch.{Stretch}
use Rattle.occ_run.specs.declared.tokens.Known.{Known}
use Rattle.occ_run.specs.Steps.{IsOver}
use Rattle.occ_run.specs.Tokens.{Among, IsKeeper, holder}

-- the code, and the tokens, of no run
abbrev pub no_program : Program
no_program = record { bodies = []; channels = []; errors = Halt }

abbrev pub no_tokens : TableId
no_tokens = record { words = 0; slots = 0; views_name = 0; atom = 0; block = 0; offset = 0; slot_names = [] }

-- the turn is the network's own: its process has this task, which may take a turn, and is out
pub record IsOut (n : Past) (t : Task) : Type 0 where
  pub marked : IsTrue (is_out n.out t.number)
  pub has : (net : Net) → IsState n net → HasTask net.tasks t.number t
  pub may : IsTrue (may_go t.wait)

-- The run is of this code on this keyboard within this limit. Each turn that is out is the network's own, and the run is over where that
-- was seen.
pub record IsHeld (p : Program) (keyboard : List ℕ) (limit : ℕ) (b : Progress) (v : Known) : Type 0 where
  pub keeps : IsKeeper v
  pub of_run : IsOfRun p keyboard limit b.network
  pub limit_is : b.limit ≡ limit
  pub out : (t : Task) → Among t v.out → IsOut b.network t
  pub over : v.over ≡ true → IsOver b

-- the run of this code on this keyboard within this limit is over
pub record IsConcluded (p : Program) (keyboard : List ℕ) (limit : ℕ) (b : Progress) : Type 0 where
  pub of_run : IsOfRun p keyboard limit b.network
  pub limit_is : b.limit ≡ limit
  pub over : IsOver b

-- a turn that is out: it can be taken, its body is the code's, and its token has its task
pub record IsTurnOut (p : Program) (l : Lease) (v : Known) : Type 0 where
  pub can : CanTakeTurn l
  pub goes_on : CanGoOn l
  pub body : slice_get p.bodies l.task.number ≡ Some (arc_value l.body)
  pub token : v ≡ holder l.task

-- turns in a row from this task on, by the code's body of its process
pub record IsStretchOf (p : Program) (task : Task) (s : Stretch) : Type 0 where
  pub number : s.number ≡ task.number
  pub some : 0 < s.count
  pub body : Body
  pub has_body : slice_get p.bodies task.number ≡ Some body
  pub turns : InRow body task s.count s.after

-- turns that were taken, or refused, from the task on that their token has
pub record IsTurnOf (p : Program) (done : Result Stretch ℕ) (v : Known) : Type 0 where
  pub task : Task
  pub token : v ≡ holder task
  pub ran : IfOk done (IsStretchOf p task)
  pub refused : IfErr done (λ number. number ≡ task.number)
