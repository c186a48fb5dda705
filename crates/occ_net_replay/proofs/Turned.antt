-- A turn of a process of the system is one of its task: where the process stands, that the task may go, and where it comes to.
use Rattle.std.proofs.Common.{◌≡◌, refl, ap, IsTrue, ℕ, ◌++◌, List}
use Rattle.occ_term.specs.declared.fault.Errors.{Errors}
use Rattle.occ_term.specs.declared.fault.Fault.{Fault}
use Rattle.occ_term.specs.Processes.{Numbered}
use Rattle.occ_term.specs.Steps.{Context, Left, left, Forking, Status, status, Step, faults}
use Rattle.occ_term.specs.System.{Process, process, Processes, and_process, AllEnded, System, system, MayGo, begun, fault_noted, GoesFrom, alone, joined, TurnIn, turn_here, turn_below, TurnAmong, turn_first, turn_later, SystemTurn, system_turn}
use Rattle.occ_term.specs.TermTyping.{Declared}
use Rattle.occ_term.specs.Terms.{Branches}
use Rattle.occ_term.specs.Turns.{none, more, SingleTurn, single_turn, Turn, stops, passes}
use Rattle.occ_term.specs.Uses.{Numbers}
use Rattle.occ_term.specs.Values.{Store}
use Rattle.occ_machine.specs.SameStop.{numbers_of}
use Rattle.occ_machine.specs.Compiled.{Program}
use Rattle.occ_machine.specs.Machine.{Body}
use Rattle.occ_machine.specs.declared.task.Task.{Task}
use Rattle.occ_machine.specs.declared.task.Wait.TheVariants as W
use Rattle.occ_net_replay.specs.Moments.{At, here, below, Among, first, later}
use Rattle.occ_net_replay.specs.Replay.{may_go}
use Rattle.occ_net_replay.proofs.Holding.{SameNumbers, put, put_among, Stands, may_turn, may_join, offers, awaits, chooses, waits, is_halted, has_failed, has_ended}

-- ---- where the process stands that takes the turn

pub record TurnedAt (quantum n : ℕ) (q : Process) (s : Store) (after : Process) (s' : Store) (st : Status) : Type 0 where
  pub own : Left
  pub branches : Processes
  pub at : At n own branches q
  pub from : Left
  pub rest : Left
  pub goes : GoesFrom own branches from
  pub turn : Turn quantum from s rest s'
  pub is : after ≡ put at rest (begun (status rest))
  pub stop : st ≡ status rest

record TurnedAmong (quantum n : ℕ) (qs : Processes) (s : Store) (after : Processes) (s' : Store) (st : Status) : Type 0 where
  pub own : Left
  pub branches : Processes
  pub at : Among n own branches qs
  pub from : Left
  pub rest : Left
  pub goes : GoesFrom own branches from
  pub turn : Turn quantum from s rest s'
  pub is : after ≡ put_among at rest (begun (status rest))
  pub stop : st ≡ status rest

mutual
  pub turned_at : {quantum n : ℕ} {q q' : Process} {s s' : Store} {st : Status} → TurnIn quantum n q s q' s' st → TurnedAt quantum n q s q' s' st
  turned_at (turn_here {a = a} {b = b} {c = c} {ps = ps} g t) = record { own = a; branches = ps; at = here; from = b; rest = c; goes = g; turn = t; is = refl; stop = refl }
  turned_at (turn_below {m = m} {a = a} x) = let y = turned_among x in record { own = y.own; branches = y.branches; at = below y.at; from = y.from; rest = y.rest; goes = y.goes; turn = y.turn; is = ap (process m a) y.is; stop = y.stop }

  turned_among : {quantum n : ℕ} {qs qs' : Processes} {s s' : Store} {st : Status} → TurnAmong quantum n qs s qs' s' st → TurnedAmong quantum n qs s qs' s' st
  turned_among (turn_first {ps = ps} x) = let y = turned_at x in record { own = y.own; branches = y.branches; at = first y.at; from = y.from; rest = y.rest; goes = y.goes; turn = y.turn; is = ap (λ z. and_process z ps) y.is; stop = y.stop }
  turned_among (turn_later {p = p} x) = let y = turned_among x in record { own = y.own; branches = y.branches; at = later y.at; from = y.from; rest = y.rest; goes = y.goes; turn = y.turn; is = ap (and_process p) y.is; stop = y.stop }

pub record TurnParts (errors : Errors) (quantum n : ℕ) (kb : List ℕ) (q : Process) (s : Store) (noted : List Fault) (mid : System) : Type 0 where
  pub may : MayGo errors noted
  pub after : Process
  pub store : Store
  pub stop : Status
  pub turned : TurnedAt quantum n q s after store stop
  pub is : mid ≡ system kb after store (noted ++ fault_noted stop)

pub turn_parts : {errors : Errors} {quantum n : ℕ} {kb : List ℕ} {q : Process} {s : Store} {noted : List Fault} {mid : System} → SystemTurn errors quantum n (system kb q s noted) mid → TurnParts errors quantum n kb q s noted mid
turn_parts (system_turn {p' = p'} {s' = s'} {st = st} g t) = record { may = g; after = p'; store = s'; stop = st; turned = turned_at t; is = refl }

-- ---- a turn begins with a step

pub record FirstStep (a : Left) (s : Store) : Type 0 where
  pub next : Left
  pub store : Store
  pub step : Step a s next store

single_first : {a b : Left} {s s' : Store} → SingleTurn a s b s' → FirstStep a s
single_first (single_turn none y g) = record { next = _; store = _; step = y }
single_first (single_turn (more x r xs) y g) = record { next = _; store = _; step = x }

pub first_step : {quantum : ℕ} {a b : Left} {s s' : Store} → Turn quantum a s b s' → FirstStep a s
first_step (stops x g) = single_first x
first_step (passes x g r) = single_first x

-- where a process goes on from is one
pub from_once : {own a b : Left} {ps : Processes} {s : Store} → GoesFrom own ps a → GoesFrom own ps b → FirstStep a s → FirstStep b s → a ≡ b
from_once alone alone x y = refl
from_once (joined e) (joined g) x y = refl
from_once alone (joined g) x y = absurd (no_fork x.step)
  where
    no_fork : {bs : Branches} {k : List Context} {s : Store} {b : Left} {s' : Store} → Step (left (Forking bs) k) s b s' → ⊥
    no_fork (faults z) = elim z [ ]
from_once (joined e) alone x y = absurd (no_fork y.step)
  where
    no_fork : {bs : Branches} {k : List Context} {s : Store} {b : Left} {s' : Store} → Step (left (Forking bs) k) s b s' → ⊥
    no_fork (faults z) = elim z [ ]

module _ (d : Declared) (p : Program) (procs : List Numbered) where
  -- a process that has a turn has a task that may take one
  pub may_take : (k : ℕ) (body : Body) (t : Task) (own : Left) (ps : Processes) (but : Numbers) → Stands d p procs k body t own ps but → {from b : Left} {s s' : Store} → GoesFrom own ps from → Step from s b s' → ((ns : List ℕ) (bs : Branches) → t.wait ≡ W.Joins ns → numbers_of bs ≡ ns → SameNumbers bs ps → AllEnded ps → ⊥) → IsTrue (may_go t.wait)
  may_take k body t own ps but (may_turn g h w a) y x f = g
  may_take k body t own ps but (may_join g m e a) y x f = ap may_go g
  may_take k body t own ps but (offers w a) alone (faults z) f = elim z [ ]
  may_take k body t own ps but (awaits w a) alone (faults z) f = elim z [ ]
  may_take k body t own ps but (chooses w a) alone (faults z) f = elim z [ ]
  may_take k body t own ps but (waits w e m a) alone (faults z) f = elim z [ ]
  may_take k body t own ps but (waits {ns = ns} {bs = bs} w e m a) (joined z) x f = absurd (f ns bs w e m z)
  may_take k body t own ps but (is_halted w) alone (faults z) f = elim z [ ]
  may_take k body t own ps but (has_failed w) alone (faults z) f = elim z [ ]
  may_take k body t own ps but (has_ended w) alone (faults z) f = elim z [ ]
