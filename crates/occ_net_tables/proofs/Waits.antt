-- What a state between says to the calls in it, and what is kept where the process rests.
use Rattle.std.proofs.Common.{◌≡◌, ◌∙◌, refl, sym, ap, subst, IsTrue, ℕ, ◌<◌, List, [], ◌∷◌, ◌++◌, Option, Some, length, arith}
use Rattle.std.specs.Prelude.{slice_set, remove}
use Rattle.std.specs.Vec.{vec_len}
use Rattle.std.proofs.lemmas.Option.{slice_get_within}
use Rattle.occ_term.specs.declared.fault.Fault.{Fault}
use Rattle.occ_term.specs.declared.message.Message.{Message}
use Rattle.occ_machine.specs.SameStop.{IsRising, ready_with}
use Rattle.occ_machine.specs.Compiled.{Program}
use Rattle.occ_machine.specs.declared.task.Task.{Task}
use Rattle.occ_machine.specs.declared.task.Wait.{Wait}
use Rattle.occ_machine.specs.declared.task.Wait.TheVariants as W
use Rattle.occ_net_replay.specs.Replay.{Net, Tasks, first_noted, may_go, made_ready}
use Rattle.occ_net_replay.specs.Waiting.{ListensAlone, channels_at, listens_on}
use Rattle.occ_net_tables.specs.declared.tables.Tables.{Tables}
use Rattle.occ_net_tables.specs.Holding.{AreTrue, AreSized}
use Rattle.occ_net_tables.specs.Settling.{Mid, HasMid}
use Rattle.occ_net_tables.specs.Keys.{set_all}
use Rattle.occ_net_tables.specs.Light.{StandsLight}
use Rattle.occ_net_tables.specs.Tasks.{IsThere}
use Rattle.occ_net_tables.proofs.Between.{there_old, waiting_old}
use Rattle.occ_net_tables.proofs.Keys.{all_length}
use Rattle.occ_net_tables.proofs.OneChange.{set_length, true_as}
use Rattle.occ_net_tables.proofs.ReadyLists.{ready_rising}
use Rattle.occ_net_tables.proofs.Steps.{IsListener, listener_is, listens_only, rest_offer, rest_listener, rest_halted, rest_faulted}

module _ (p : Program) (n : Tables) (number place : ℕ) (wait : Wait) (h : HasMid p n number place wait) where
  pub rising_of : IsRising n.ready.items
  rising_of = subst IsRising (sym h.mid.sound.ready_is) (ready_rising 0 n.tasks.items)

  pub there_of : IsThere n.tasks.items number
  there_of = record { task = made_ready h.after; there = there_old p h.keyboard n number place h.after h.net h.mid }

  pub light_of : StandsLight n.tasks.items number
  light_of = record { task = made_ready h.after; there = there_old p h.keyboard n number place h.after h.net h.mid; light = tt }

  pub within_of : place < vec_len n.ready
  within_of = let l = slice_get_within n.ready.items place number h.mid.at_place in omega (arith, l, n.ready.ok.0)

module _ (p : Program) (kb : List ℕ) (old : Tables) (number place : ℕ) (after : Task) (net : Net) (mid : Mid p kb old number place after net) where
  abbrev rested : Wait → Tasks
  rested v = slice_set old.tasks.items number (Some (ready_with (made_ready after) v))

  pub rests_at_offer : {tasks : Tasks} {ready : List ℕ} {offering : List (Option ℕ)} (c : ℕ) (m : Message) → after.wait ≡ W.Offers c m → tasks ≡ rested (W.Offers c m) → ready ≡ remove old.ready.items place → offering ≡ slice_set old.offering.items c (Some number) → AreTrue tasks ready offering old.awaiting.items old.parents.items old.unfinished.items old.fault (first_noted net.noted)
  rests_at_offer c m w t r o =
      let a = mid.offers c m w in
      true_as t r o refl refl refl refl
      (rest_offer old.tasks.items old.ready.items old.offering.items old.awaiting.items old.parents.items old.unfinished.items old.fault mid.sound number (made_ready after) (there_old p kb old number place after net mid) refl place mid.at_place (ready_with (made_ready after) (W.Offers c m)) c m refl
      (let d = a.declared in let s = mid.sized.offering_is in omega (arith, d, s)) (λ j u x h e. a.alone j u x (waiting_old p kb old number place after net mid j u h (ap may_go e)).1 e))

  pub sized_at_offer : {tasks : Tasks} {offering : List (Option ℕ)} (c : ℕ) (m : Message) → tasks ≡ rested (W.Offers c m) → offering ≡ slice_set old.offering.items c (Some number) → AreSized p tasks offering old.awaiting.items old.parents.items old.unfinished.items
  sized_at_offer c m t o =
      record {
        tasks_are = ap length t ∙ set_length old.tasks.items number (Some (ready_with (made_ready after) (W.Offers c m))) ∙ mid.sized.tasks_are;
        offering_is = ap length o ∙ set_length old.offering.items c (Some number) ∙ mid.sized.offering_is;
        awaiting_is = mid.sized.awaiting_is;
        parents_are = mid.sized.parents_are;
        unfinished_are = mid.sized.unfinished_are;
      }

  pub rests_listening : {tasks : Tasks} {ready : List ℕ} {awaiting : List (Option ℕ)} (v : Wait) → IsListener v → after.wait ≡ v → tasks ≡ rested v → ready ≡ remove old.ready.items place → awaiting ≡ set_all (channels_at v) (Some number) old.awaiting.items → AreTrue tasks ready old.offering.items awaiting old.parents.items old.unfinished.items old.fault (first_noted net.noted)
  rests_listening v l w t r o =
      let alone : (c : ℕ) → IsTrue (listens_on v c) → ListensAlone p net.tasks c = (λ c q. mid.listens c (subst (λ z. IsTrue (listens_on z c)) (sym w) q)) in
      true_as t r refl o refl refl refl
      (rest_listener old.tasks.items old.ready.items old.offering.items old.awaiting.items old.parents.items old.unfinished.items old.fault mid.sound number (made_ready after) (there_old p kb old number place after net mid) refl place mid.at_place (ready_with (made_ready after) v) v l refl
      (λ c q. let d = (alone c q).declared in let s = mid.sized.awaiting_is in omega (arith, d, s)) (λ c j u q h e. (alone c q).alone j u (waiting_old p kb old number place after net mid j u h (listens_only u.wait (listener_is u.wait c e)).still).1 e))

  pub sized_listening : {tasks : Tasks} {awaiting : List (Option ℕ)} (v : Wait) → tasks ≡ rested v → awaiting ≡ set_all (channels_at v) (Some number) old.awaiting.items → AreSized p tasks old.offering.items awaiting old.parents.items old.unfinished.items
  sized_listening v t o =
      record {
        tasks_are = ap length t ∙ set_length old.tasks.items number (Some (ready_with (made_ready after) v)) ∙ mid.sized.tasks_are;
        offering_is = mid.sized.offering_is;
        awaiting_is = ap length o ∙ all_length (channels_at v) (Some number) old.awaiting.items ∙ mid.sized.awaiting_is;
        parents_are = mid.sized.parents_are;
        unfinished_are = mid.sized.unfinished_are;
      }

  pub rests_halted : {tasks : Tasks} {ready : List ℕ} → tasks ≡ rested W.Halted → ready ≡ remove old.ready.items place → AreTrue tasks ready old.offering.items old.awaiting.items old.parents.items old.unfinished.items old.fault (first_noted net.noted)
  rests_halted t r =
      true_as t r refl refl refl refl refl
      (rest_halted old.tasks.items old.ready.items old.offering.items old.awaiting.items old.parents.items old.unfinished.items old.fault mid.sound number (made_ready after) (there_old p kb old number place after net mid) refl place mid.at_place (ready_with (made_ready after) W.Halted) refl)

  pub rests_faulted : {tasks : Tasks} {ready : List ℕ} {fault : Option Fault} (x : Fault) → tasks ≡ rested (W.Faulted x) → ready ≡ remove old.ready.items place → fault ≡ first_noted (net.noted ++ x ∷ []) → AreTrue tasks ready old.offering.items old.awaiting.items old.parents.items old.unfinished.items fault (first_noted (net.noted ++ x ∷ []))
  rests_faulted x t r f =
      true_as t r refl refl refl refl refl
      (rest_faulted old.tasks.items old.ready.items old.offering.items old.awaiting.items old.parents.items old.unfinished.items old.fault mid.sound number (made_ready after) (there_old p kb old number place after net mid) refl place mid.at_place (ready_with (made_ready after) (W.Faulted x)) x f refl)

  pub sized_at_rest : {tasks : Tasks} (v : Wait) → tasks ≡ rested v → AreSized p tasks old.offering.items old.awaiting.items old.parents.items old.unfinished.items
  sized_at_rest v t =
      record {
        tasks_are = ap length t ∙ set_length old.tasks.items number (Some (ready_with (made_ready after) v)) ∙ mid.sized.tasks_are;
        offering_is = mid.sized.offering_is;
        awaiting_is = mid.sized.awaiting_is;
        parents_are = mid.sized.parents_are;
        unfinished_are = mid.sized.unfinished_are;
      }
