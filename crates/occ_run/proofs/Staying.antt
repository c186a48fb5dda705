-- Turns that are settled leave the task of every other process that may take a turn as it is.
use Rattle.std.proofs.Common.{◌≡◌, ◌∙◌, refl, sym, ap, subst, Bool, false, IsTrue, ℕ, zero, suc, ◌+◌, ◌<◌, ◌≤◌, ◌%◌, ◌^◌, List, [], ◌∷◌, ◌++◌, Option, Some, length, arith}
use Rattle.std.specs.Prelude.{nat_eq, slice_get, slice_set}
use Rattle.std.proofs.lemmas.Bool.{eq-eqb}
use Rattle.std.proofs.Math.Nat.{mod-eq_of_lt}
use Rattle.std.proofs.lemmas.Option.{slice_get_within}
use mathlib.Core.Bool.{true≢false}
use Rattle.occ_term.specs.declared.message.Message.{Message}
use Rattle.occ_term.specs.Frames.{Variables, is_held}
use Rattle.occ_term.specs.declared.communication.End.{End}
use Rattle.occ_term.specs.UnfoldedProgram.{UnfoldedProgram}
use Rattle.occ_machine.specs.Compiled.{Program}
use Rattle.occ_machine.specs.Machine.{Body}
use Rattle.occ_machine.specs.declared.task.Task.{Task}
use Rattle.occ_machine.specs.declared.task.Wait.{Wait}
use Rattle.occ_machine.specs.declared.task.Wait.TheVariants as W
use Rattle.occ_net_replay.specs.declared.choice.Choice.{Choice}
use Rattle.occ_net_replay.specs.Replay.{Gets, HandsOver, HasTask, Net, OneTurn, Replays, Settled, Tasks, arm_gets, begins, branch_task, error_gets, forks, goes_on, joined, joins, keyboard_gives, may_go, meets, ready_from, screen_gets, settles, skips, stays, task_gets, task_gives, took_turn, with_branches}
use Rattle.occ_net_replay.specs.Waiting.{IsReplay, IsTurn}
use Rattle.occ_net_replay.proofs.Alone.{turns_fork_alone}
use Rattle.occ_net_replay.proofs.Same.{same_last}
use Rattle.occ_net_replay.proofs.Tables.{or_first, or_second, ready_at, set_other, set_same, task_once}
use Rattle.occ_net.specs.Networks.{IsNetwork, IsState, Past, ready_in}
use Rattle.occ_net.specs.Stretches.{SettlesAll, after_turns, choices_from}
use Rattle.occ_net.proofs.Stretching.{choices_length}

-- ---- one task changes

-- another one, which waits, is not this one
apart : (tasks : Tasks) (i j : ℕ) (t u : Task) (w : Wait) → HasTask tasks i t → IsTrue (may_go t.wait) → HasTask tasks j u → u.wait ≡ w → may_go w ≡ false → i ≡ j → ⊥
apart tasks i j t u w ht may hu is not e =
    let same : t ≡ u = task_once tasks i ht (subst (λ k. HasTask tasks k u) (sym e) hu) in
    true≢false (sym may ∙ ap (λ (z : Task). may_go z.wait) same ∙ ap may_go is ∙ not)

left_alone : (tasks : Tasks) (i j : ℕ) (t : Task) (x : Option Task) → HasTask tasks i t → (i ≡ j → ⊥) → HasTask (slice_set tasks j x) i t
left_alone tasks i j t x h away = set_other tasks j i x away ∙ h

branches_left : (bodies : List Body) (f : Variables) (ns : List ℕ) (tasks : Tasks) (i : ℕ) (t : Task) → HasTask tasks i t → (IsTrue (is_held ns i) → ⊥) → HasTask (with_branches bodies f ns tasks) i t
branches_left bodies f [] tasks i t h none = h
branches_left bodies f (n ∷ ns) tasks i t h none =
    branches_left bodies f ns (slice_set tasks n (branch_task bodies f tasks n)) i t (left_alone tasks i n t (branch_task bodies f tasks n) h (λ e. none (or_first (nat_eq n i) (is_held ns i) (eq-eqb n i (sym e))))) (λ held. none (or_second (nat_eq n i) (is_held ns i) held))

-- ---- what happens after a turn

gives_left : {c : ℕ} {m : Message} {x : End} {a b : Net} (i : ℕ) (t : Task) → HasTask a.tasks i t → IsTrue (may_go t.wait) → HandsOver c m x a b → HasTask b.tasks i t
gives_left i t h may (task_gives {n = n} {t = u} {net = net} there w) = left_alone net.tasks i n t _ h (apart net.tasks i n t u _ h may there w refl)
gives_left i t h may (keyboard_gives e z q) = h

gets_left : {pick : ℕ} {offers : ℕ → Bool} {c : ℕ} {m : Message} {x : End} {a b : Net} (i : ℕ) (t : Task) → HasTask a.tasks i t → IsTrue (may_go t.wait) → Gets pick offers c m x a b → HasTask b.tasks i t
gets_left i t h may (task_gets {n = n} {t = u} {net = net} there w) = left_alone net.tasks i n t _ h (apart net.tasks i n t u _ h may there w refl)
gets_left i t h may (arm_gets {n = n} {t = u} {net = net} there w q z) = left_alone net.tasks i n t _ h (apart net.tasks i n t u _ h may there w refl)
gets_left i t h may (screen_gets e) = h
gets_left i t h may (error_gets e) = h

settled_left : {bodies : List Body} {n pick : ℕ} {a b : Net} (i : ℕ) (t : Task) → HasTask a.tasks i t → IsTrue (may_go t.wait) → (i ≡ n → ⊥) → ((s : Task) (ns : List ℕ) → HasTask a.tasks n s → s.wait ≡ W.Joins ns → IsTrue (is_held ns i) → ⊥) → Settled bodies n pick a b → HasTask b.tasks i t
settled_left i t h may away free (settles (meets part (joined g r))) = gets_left i t (gives_left i t h may g) may r
settled_left {n = n} i t h may away free (settles (skips {t = s} {a = a} there w q f)) = left_alone a.tasks i n t _ h away
settled_left {bodies = bodies} i t h may away free (settles (forks {t = s} {ns = ns} {a = a} there w)) = branches_left bodies s.frame ns a.tasks i t h (free s ns there w)
settled_left i t h may away free (settles (joins m {t = s} {a = a} there w among done)) = left_alone a.tasks i m t _ h (apart a.tasks i m t s _ h may there w refl)
settled_left i t h may away free (stays none) = h

module _ (u : UnfoldedProgram) (p : Program) (quantum : ℕ) (kb : List ℕ) (cs : List Choice) (a b : Net) (z : IsReplay u p quantum kb cs a) (c : Choice) (o : OneTurn p c a b) where
  -- the turn that was taken
  turn : IsTurn p a.tasks o.number o.after
  turn =
      let r = ready_at 0 a.tasks (c.which % length (ready_from 0 a.tasks)) o.number o.selects in
      let at : r.place ≡ o.number = (let q = r.is in omega (arith, q)) in
      let there : HasTask a.tasks o.number r.task = subst (λ i. HasTask a.tasks i r.task) at r.there in
      let same : r.task ≡ o.before = task_once a.tasks o.number there o.has_task in
      record { body = o.body; before = o.before; has_body = o.has_body; has_task = o.has_task; may = subst (λ (t : Task). IsTrue (may_go t.wait)) same r.may; stops = o.stops }

  abbrev now : Net
  now = took_turn a o.number o.after

  module _ (i : ℕ) (t : Task) (h : HasTask a.tasks i t) (may : IsTrue (may_go t.wait)) (away : i ≡ o.number → ⊥) where
    still : HasTask now.tasks i t
    still = left_alone a.tasks i o.number t (Some o.after) h away

    -- it is no branch of a fork
    not_forked : (s : Task) (ns : List ℕ) → HasTask now.tasks o.number s → s.wait ≡ W.Joins ns → IsTrue (is_held ns i) → ⊥
    not_forked s ns there w held =
        let same : s ≡ o.after = task_once now.tasks o.number there (set_same a.tasks o.number (Some o.before) (Some o.after) o.has_task) in
        let alone = turns_fork_alone u p quantum kb cs a o.number o.after ns z turn (ap (λ (x : Task). x.wait) (sym same) ∙ w) in
        true≢false (sym may ∙ ap may_go (alone.free i t held h))

    pub left : HasTask b.tasks i t
    left = settled_left i t still may away not_forked o.settles

-- ---- of a network

-- where a replay came from
pub record Came (p : Program) (kb : List ℕ) (cs : List Choice) (c : Choice) (net : Net) : Type 0 where
  pub from : Net
  pub replays : Replays p kb cs from
  pub turn : OneTurn p c from net

pub came : (p : Program) (kb : List ℕ) (all cs : List Choice) (c : Choice) (net : Net) → Replays p kb all net → all ≡ cs ++ c ∷ [] → Came p kb cs c net
came p kb all cs c net begins e = absurd (none cs e)
  where
    none : (xs : List Choice) → [] ≡ xs ++ c ∷ [] → ⊥
    none [] q = cc
    none (x ∷ xs) q = cc
came p kb all cs c net (goes_on {cs = ds} {c = d} {a = a} r going o) e =
    let q = same_last ds cs d c e in
    record { from = a; replays = subst (λ l. Replays p kb l a) q.0 r; turn = subst (λ x. OneTurn p x a net) q.1 o }

module _ (old new : Past) (k : IsNetwork old) (number count pick : ℕ) (small : count < 2 ^ 32) (h : SettlesAll old number count pick new) where
  -- before each of the turns, and after the last one
  stays_along : (t : Task) → ((net : Net) → IsState old net → HasTask net.tasks t.number t) → IsTrue (may_go t.wait) → (t.number ≡ number → ⊥) → (m : ℕ) → m ≤ count → (net : Net) → IsState (after_turns old h.place pick number m) net → HasTask net.tasks t.number t
  stays_along t has may away zero l net state = has net state
  stays_along t has may away (suc m) l net state =
      let choices : List Choice = choices_from h.place pick old.choices m in
      let choice : Choice = record { which = h.place; pick = pick + m } in
      let x = came old.program old.keyboard (choices ++ choice ∷ []) choices choice net state refl in
      let before : HasTask x.from.tasks t.number t = stays_along t has may away m (omega (arith, l)) x.from x.replays in
      let few = k.few in
      let long = choices_length h.place pick old.choices m in
      let replay : IsReplay k.compiled.source old.program k.compiled.quantum old.keyboard choices x.from =
      record { well_formed = k.compiled.well_formed; lawful = k.compiled.lawful; compiled = k.compiled.compiled; bytes = k.bytes; few = omega (arith, few, long, l, small); replays = x.replays }
      in
      let at : slice_get (ready_in x.from) h.place ≡ Some number = h.at m (omega (arith, l)) x.from x.replays in
      let within : h.place < length (ready_in x.from) = slice_get_within (ready_in x.from) h.place number at in
      let selects : slice_get (ready_in x.from) h.place ≡ Some x.turn.number = ap (slice_get (ready_in x.from)) (sym (mod-eq_of_lt within)) ∙ x.turn.selects in
      let same : number ≡ x.turn.number = cc in
      left k.compiled.source old.program k.compiled.quantum old.keyboard choices x.from net replay choice x.turn t.number t before may (λ e. away (e ∙ sym same))

  pub stays_ready : (t : Task) → ((net : Net) → IsState old net → HasTask net.tasks t.number t) → IsTrue (may_go t.wait) → (t.number ≡ number → ⊥) → (net : Net) → IsState new net → HasTask net.tasks t.number t
  stays_ready t has may away net state = stays_along t has may away count (omega arith) net (subst (λ (n : Past). IsState n net) h.is state)
