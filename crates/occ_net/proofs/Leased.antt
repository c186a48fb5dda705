-- The process that a lease gives can take a turn.
use Rattle.std.proofs.Common.{◌≡◌, ◌∙◌, refl, sym, ap, subst, Bool, true, false, IsTrue, ℕ, suc, ◌+◌, ◌<◌, ◌^◌, List, [], ◌∷◌, Option, Some, None, length, arith}
use Rattle.std.specs.Arc.{arc_value}
use Rattle.std.specs.Prelude.{if◌then◌else◌, slice_get}
use Rattle.std.proofs.lemmas.Option.{slice_get_within}
use Rattle.occ_machine.specs.Compiled.{IsCompiled}
use Rattle.occ_machine.specs.Machine.{Body}
use Rattle.occ_machine.specs.declared.task.Task.{Task}
use Rattle.occ_proc.specs.Turns.{HasStop}
use Rattle.occ_term.specs.declared.ending.Ending.{Ending}
use Rattle.occ_net_replay.specs.Replay.{HasTask, Net, ending_of, may_go}
use Rattle.occ_net_replay.specs.Waiting.{IsReplay}
use Rattle.occ_net_replay.proofs.Alone.{turns_are_few}
use Rattle.occ_net_replay.proofs.Law.{ready_tasks_stop}
use Rattle.occ_net_replay.proofs.Tables.{ready_at}
use Rattle.occ_net_tables.specs.declared.tables.Tables.{Tables}
use Rattle.occ_net_tables.proofs.Placing.{placed_replays}
use Rattle.occ_net_tables.proofs.Turned.{body_small}
use Rattle.occ_net.specs.Networks.{Past, IsState, first_in, is_out, leased, leased_at, ready_in}
use Rattle.occ_net.specs.declared.leasing.Lease.{Lease}
use Rattle.occ_net.specs.Keeping.{KeepsReplay}
use Rattle.occ_net.specs.Leases.{CanTakeTurn}
use Rattle.occ_net.specs.Settling.{IsAmong}

-- ---- what is leased is ready

first_there : (out : List Bool) (ready : List ℕ) (n : ℕ) → first_in out ready ≡ Some n → IsAmong ready n
first_there out [] n e = absurd cc
first_there out (x ∷ ready) n e = by (is_out out x) e (first_there out ready n)
  where
    by : (b : Bool) → (if b then first_in out ready else Some x) ≡ Some n → (first_in out ready ≡ Some n → IsAmong ready n) → IsAmong (x ∷ ready) n
    by true q h = let r = h q in record { place = suc r.place; at = r.at }
    by false q h = record { place = 0; at = q }

pub record IsGoing (ending : Option Ending) (ready : List ℕ) (n : ℕ) : Type 0 where
  pub going : ending ≡ None
  pub place : IsAmong ready n

pub leased_there : (ending : Option Ending) (out : List Bool) (ready : List ℕ) (n : ℕ) → leased_at ending out ready ≡ Some n → IsGoing ending ready n
leased_there None out ready n e = record { going = refl; place = first_there out ready n e }
leased_there (Some x) out ready n e = absurd cc

-- ---- it has a task that may go on

pub record MayTurn (net : Net) (n : ℕ) : Type 0 where
  pub task : Task
  pub there : HasTask net.tasks n task
  pub may : IsTrue (may_go task.wait)

pub may_turn : (net : Net) (n : ℕ) → IsAmong (ready_in net) n → MayTurn net n
may_turn net n p =
    let x = ready_at 0 net.tasks p.place n p.at in
    let same : x.place ≡ n = (let q = x.is in omega (arith, q)) in
    record { task = x.task; there = subst (λ i. HasTask net.tasks i x.task) same x.there; may = x.may }

pub will_turn : (n now : Past) (tables : Tables) (k : KeepsReplay n tables) → n ≡ now → (i : ℕ) → ((net : Net) → IsState now net → leased now net ≡ Some i) → MayTurn k.net i
will_turn n now tables k same i h =
    let state : IsState n k.net = placed_replays n.program n.keyboard k.places in
    let is : leased n k.net ≡ Some i = subst (λ (m : Past). leased m k.net ≡ Some i) (sym same) (h k.net (subst (λ (m : Past). IsState m k.net) same state)) in
    may_turn k.net i (leased_there (ending_of n.program.errors k.net) n.out (ready_in k.net) i is).place

-- ---- it can take a turn

module _ (n : Past) (tables : Tables) (k : KeepsReplay n tables) (compiled : IsCompiled n.program) (few : 1 + length n.choices < 2 ^ 64) where
  is_replay : IsReplay compiled.source n.program compiled.quantum n.keyboard n.choices k.net
  is_replay = record { well_formed = compiled.well_formed; lawful = compiled.lawful; compiled = compiled.compiled; bytes = k.bytes; few = few; replays = placed_replays n.program n.keyboard k.places }

  pub turn_counts : (i : ℕ) (t : Task) → HasTask k.net.tasks i t → t.turns + 1 < 2 ^ 64
  turn_counts i t h = turns_are_few compiled.source n.program compiled.quantum n.keyboard n.choices k.net i t is_replay h

  pub turn_stops : (i : ℕ) (body : Body) (t : Task) → slice_get n.program.bodies i ≡ Some body → HasTask k.net.tasks i t → IsTrue (may_go t.wait) → HasStop body t
  turn_stops i body t has there may =
      let y = ready_tasks_stop compiled.source n.program compiled.quantum n.keyboard n.choices k.net i body t compiled.well_formed compiled.lawful compiled.compiled k.bytes few is_replay.replays has there may in
      record { after = y.0; stops = y.1 }

  -- there is a body for each task
  pub body_there : (i : ℕ) (t : Task) → HasTask k.net.tasks i t → i < length n.program.bodies
  body_there i t h =
      let holds = k.holds k.net is_replay.replays in
      let within : i < length k.net.tasks = slice_get_within k.net.tasks i (Some t) h in
      let same : length k.net.tasks ≡ length n.program.bodies = ap length holds.tasks ∙ holds.sized.tasks_are in
      omega (arith, within, same)

  pub can_turn : (i : ℕ) (l : Lease) (body : Body) (t : Task) → arc_value l.body ≡ body → l.task ≡ t → slice_get n.program.bodies i ≡ Some body → HasTask k.net.tasks i t → IsTrue (may_go t.wait) → CanTakeTurn l
  can_turn i l body t same_body same_task has there may =
      record {
        small = subst (λ (b : Body). length b.code + 1 < 2 ^ 32) (sym same_body) (body_small n.program i body compiled has);
        counts = subst (λ (u : Task). u.turns + 1 < 2 ^ 64) (sym same_task) (turn_counts i t there);
        stops = subst (λ (b : Body). HasStop b l.task) (sym same_body) (subst (λ (u : Task). HasStop body u) (sym same_task) (turn_stops i body t has there may));
      }
