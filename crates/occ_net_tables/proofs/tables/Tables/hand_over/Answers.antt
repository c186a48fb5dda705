use Rattle.std.proofs.Common.{◌≡◌, ◌∙◌, ap, sym, Some}
use Rattle.std.specs.Prelude.{slice_get, slice_set}
use Rattle.occ_machine.specs.SameStop.{ready_with}
use Rattle.occ_machine.specs.declared.task.Arm.{Arm}
use Rattle.occ_machine.specs.declared.task.Wait.TheVariants as W
use Rattle.occ_net_replay.specs.Replay.{made_ready}
use Rattle.occ_net_replay.proofs.Tables.{set_same}
use Rattle.occ_net_tables.proofs.OneChange.{set_twice}
use Rattle.occ_net_tables.proofs.Arms.{same_channel}
use Rattle.occ_net_tables.proofs.LightWaits.{awaits_it}
use Rattle.occ_net_tables.proofs.tables.Tables.hand_over.Goals as goal

pub awaited-requires : goal.awaited-requires
awaited-requires c =
    let r = c.requires.takes in
    record { task = r.task; there = ap (λ l. slice_get l c.args.taker) c.deref.ensures.value ∙ r.there }

pub hand_to_input-requires-clause-awaits : goal.hand_to_input-requires-clause-awaits
hand_to_input-requires-clause-awaits c =
    let r = c.requires.takes in
    let own = c.awaited.ensures r.task (ap (λ l. slice_get l c.args.taker) c.deref.ensures.value ∙ r.there) in
    record { task = r.task; there = r.there; waits = same_channel c.in-Some._own r.takes (awaits_it r.task.wait c.in-Some._own (sym c.in-Some.is ∙ own)) }

pub set_wait-requires : goal.set_wait-requires
set_wait-requires c =
    let r = c.requires.takes in
    record { task = made_ready r.task; there = ap (λ l. slice_get l c.args.taker) (c.leave-arm.ensures.left r.task r.there).tasks ∙ set_same c.args.self.now.tasks.items c.args.taker (Some r.task) (Some (made_ready r.task)) r.there; light = tt }

pub returns-in-Some : goal.returns-in-Some
returns-in-Some c = c.hand_to_input.ensures c.args.pick

pub returns : goal.returns
returns c = λ t a there takes.
    let n = c.args.taker in
    let old = c.args.self.now.tasks.items in
    let left = c.leave-arm.ensures.left t there in
    let mine = ap (λ l. slice_get l n) left.tasks ∙ set_same old n (Some t) (Some (made_ready t)) there in
    let wait : c.took.result ≡ W.Took a.number a.indices (Some c.args.message) = c.took.ensures ∙ ap (λ (x : Arm). W.Took x.number x.indices (Some c.args.message)) (c.leave-arm.ensures.arm t a there takes) in
    record {
      tasks =
          c.set_wait.ensures (made_ready t) mine ∙ ap (λ l. slice_set l n (Some (ready_with t c.took.result))) left.tasks
          ∙ set_twice old n (Some (made_ready t)) (Some (ready_with t c.took.result)) ∙ ap (λ w. slice_set old n (Some (ready_with t w))) wait;
      ready = ap (λ z. z.items) left.ready ∙ c.insert.ensures.items;
      awaiting = left.awaiting;
      trace = left.trace;
      offering = left.offering;
      parents = left.parents;
      unfinished = left.unfinished;
      fault = left.fault;
      used = left.used;
    }
