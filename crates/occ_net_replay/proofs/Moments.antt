-- Between two turns each process stands at the same stop in the network and in the system.
use Rattle.std.proofs.Common.{◌≡◌, ◌∙◌, sym, ap, subst, refl, IsTrue, ℕ, ◌⊎◌, inl, inr, List, [], ◌∷◌, Some}
use Rattle.std.specs.Prelude.{slice_get}
use mathlib.Core.Bool.{true≢false}
use Rattle.occ_term.specs.Processes.{Numbered}
use Rattle.occ_term.specs.Selecting.{Enabled, SkipArm, InputArm}
use Rattle.occ_term.specs.Steps.{Context, Left}
use Rattle.occ_term.specs.System.{Process, Processes, process, no_processes, and_process}
use Rattle.occ_term.specs.Terms.{Branches, no_branches, and_branch}
use Rattle.occ_term.specs.TermTyping.{Declared}
use Rattle.occ_term.specs.TypedSteps.{StoreHas}
use Rattle.occ_term.specs.Uses.{Numbers}
use Rattle.occ_term.specs.Values.{Store}
use Rattle.occ_machine.specs.SameStop.{Agrees, SameArms, numbers_of}
use Rattle.occ_machine.specs.Alike.{Alike}
use Rattle.occ_machine.specs.Compiled.{Program}
use Rattle.occ_machine.specs.Machine.{Body}
use Rattle.occ_machine.specs.declared.task.Arm.{Arm}
use Rattle.occ_machine.specs.declared.task.Task.{Task}
use Rattle.occ_machine.specs.declared.task.Wait.TheVariants as W
use Rattle.occ_net_replay.specs.Replay.{Tasks, HasTask, is_done, may_go}
use Rattle.occ_net_replay.specs.Moments.{At, GoesOnWith, is_going, is_joining, OnSameChannels, StopsAlike, both_go, both_join, both_offer, both_await, both_choose, both_fork, both_halt, both_fail, both_done, StandAlike, numbers_below}
use Rattle.occ_net_replay.proofs.Holding.{AgreesBut, SameNumbers, agrees_all, Stands, may_turn, may_join, offers, awaits, chooses, waits, is_halted, has_failed, has_ended}
use Rattle.occ_net_replay.proofs.Putting.{In, mine}
use Rattle.occ_net_replay.proofs.States.{State}
use Rattle.occ_net_replay.proofs.Tables.{task_once}
use Rattle.occ_net_replay.proofs.TakingTurns.{Begins, begins_alone, begins_joined, begins_as}

on_same : (d : Declared) (Go : Task → Left → Type 0) (t : Task) (k : List Context) (arms : List Arm) (es : List Enabled) → SameArms d Go t k arms es → OnSameChannels arms es
on_same d Go t k [] [] h = tt
on_same d Go t k [] (e ∷ es) h = absurd h
on_same d Go t k (a ∷ arms) [] h = absurd h
on_same d Go t k (a ∷ arms) (SkipArm again body ∷ es) h = (h.0.0, on_same d Go t k arms es h.1)
on_same d Go t k (a ∷ arms) (InputArm again c list ∷ es) h = (h.0.0, on_same d Go t k arms es h.1)

same_numbers : (bs : Branches) (ps : Processes) → SameNumbers bs ps → numbers_below ps ≡ numbers_of bs
same_numbers no_branches no_processes h = refl
same_numbers no_branches (and_process p ps) h = absurd h
same_numbers (and_branch n b bs) no_processes h = absurd h
same_numbers (and_branch n b bs) (and_process (process m own qs) ps) h = ap (λ l. m ∷ l) (same_numbers bs ps h.1) ∙ ap (λ k. k ∷ numbers_of bs) h.0

module _ (d : Declared) (p : Program) (procs : List Numbered) where
  stops_alike : (k : ℕ) (body : Body) (t : Task) (own : Left) (ps : Processes) (but : Numbers) → Stands d p procs k body t own ps but → StopsAlike t.wait own ps
  stops_alike k body t own ps but (may_turn g h y a) = both_go y
  stops_alike k body t own ps but (may_join g n e a) = subst (λ v. StopsAlike v own ps) (sym g) (both_join e)
  stops_alike k body t own ps but (offers w a) = subst (λ v. StopsAlike v own ps) (sym w) both_offer
  stops_alike k body t own ps but (awaits w a) = subst (λ v. StopsAlike v own ps) (sym w) both_await
  stops_alike k body t own ps but (chooses {arms = arms} {es = es} {j = j} w a) = subst (λ v. StopsAlike v own ps) (sym w) (both_choose (on_same d (Alike k d body) t j arms es a))
  stops_alike k body t own ps but (waits {bs = bs} w e n a) = subst (λ v. StopsAlike v own ps) (sym w) (both_fork e (same_numbers bs ps n ∙ e))
  stops_alike k body t own ps but (is_halted w) = subst (λ v. StopsAlike v own ps) (sym w) both_halt
  stops_alike k body t own ps but (has_failed w) = subst (λ v. StopsAlike v own ps) (sym w) both_fail
  stops_alike k body t own ps but (has_ended w) = subst (λ v. StopsAlike v own ps) (sym w) both_done

  pub stand_alike : (k : ℕ) (tasks : Tasks) (proc : Process) (s : Store) → State d p procs k tasks proc s → StandAlike tasks proc
  stand_alike k tasks proc s st = record { each = each; others = λ n t h. by n t (st.live n t h) }
    where
      each : (n : ℕ) (own : Left) (ps : Processes) → At n own ps proc → (t : Task) × HasTask tasks n t × StopsAlike t.wait own ps
      each n own ps at =
          let y = (mine d p procs k s tasks at st.holds).0 in
          (y.task, y.has_task, stops_alike k y.belongs.body y.task own ps y.but y.stands)

      by : (n : ℕ) (t : Task) → In n proc ⊎ (t.wait ≡ W.Done) → ((own : Left) × (ps : Processes) × At n own ps proc) ⊎ IsTrue (is_done t.wait)
      by n t (inl x) = inl (x.own, x.branches, x.at)
      by n t (inr e) = inr (ap is_done e)

  -- ---- the same code ahead

  ahead_of : (k : ℕ) (body : Body) (t : Task) (own next : Left) (ps : Processes) (but : Numbers) → Begins d p procs k body t own ps but → GoesOnWith own ps next → Alike k d body t next
  ahead_of k body t own next ps but (begins_alone g a) (is_going h) = a
  ahead_of k body t own next ps but (begins_alone g a) (is_joining e) = absurd (true≢false (sym g))
  ahead_of k body t own next ps but (begins_joined e a) (is_going h) = absurd (true≢false (sym h))
  ahead_of k body t own next ps but (begins_joined e a) (is_joining h) = a

  agrees_of : (k : ℕ) (body : Body) (t : Task) (own : Left) (ps : Processes) (but : Numbers) (s : Store) → Begins d p procs k body t own ps but → StoreHas d s → AgreesBut body.cells but t.frame s → Agrees d body.cells t.frame s
  agrees_of k body t own ps but s (begins_alone g a) typed h = agrees_all d body.cells t.frame s typed h
  agrees_of k body t own ps but s (begins_joined e a) typed h = agrees_all d body.cells t.frame s typed h

  pub goes_ahead : (k : ℕ) (tasks : Tasks) (proc : Process) (s : Store) → State d p procs k tasks proc s
      → (n : ℕ) (own next : Left) (ps : Processes) (t : Task) → At n own ps proc → GoesOnWith own ps next → HasTask tasks n t → IsTrue (may_go t.wait) → (body : Body) × (slice_get p.bodies n ≡ Some body) × Agrees d body.cells t.frame s × Alike k d body t next
  goes_ahead k tasks proc s st n own next ps t at g there may =
      let y = (mine d p procs k s tasks at st.holds).0 in
      let same : y.task ≡ t = task_once tasks n y.has_task there in
      let stands = subst (λ z. Stands d p procs k y.belongs.body z own ps y.but) same y.stands in
      let begins = begins_as d p procs k y.belongs.body t own ps y.but stands may in
      let agrees = subst (λ z. AgreesBut y.belongs.body.cells y.but z.frame s) same y.agrees in (
        y.belongs.body,
        y.belongs.code,
        agrees_of k y.belongs.body t own ps y.but s begins st.typed_store agrees,
        ahead_of k y.belongs.body t own next ps y.but begins g,
      )
