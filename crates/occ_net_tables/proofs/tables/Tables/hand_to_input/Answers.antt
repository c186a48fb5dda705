use Rattle.std.proofs.Common.{◌≡◌, ◌∙◌, ap, refl, subst, sym, None, Some}
use Rattle.std.specs.Prelude.{slice_set}
use Rattle.occ_machine.specs.SameStop.{ready_with}
use Rattle.occ_machine.specs.declared.task.Arm.{Arm}
use Rattle.occ_machine.specs.declared.task.Task.{Task}
use Rattle.occ_machine.specs.declared.task.Wait.TheVariants as W
use Rattle.occ_net_replay.proofs.Tables.{task_once}
use Rattle.occ_net_replay.specs.Waiting.{channels_at}
use Rattle.occ_net_tables.specs.Keys.{set_all}
use Rattle.occ_net_tables.specs.Light.{IsLight}
use Rattle.occ_net_tables.proofs.Arms.{input_of}
use Rattle.occ_net_tables.proofs.tables.Tables.hand_to_input.Goals as goal

pub set_wait-requires : goal.set_wait-requires
set_wait-requires c =
    let r = c.requires.awaits in
    record { task = r.task; there = r.there; light = subst IsLight (sym r.waits) tt }

pub returns : goal.returns
returns c = λ pick t a there takes.
    let n = c.args.taker in
    let old = c.args.self.now.tasks.items in
    let r = c.requires.awaits in
    let same : r.task ≡ t = task_once old n r.there there in
    let waits : t.wait ≡ W.Awaits c.args.chan = sym (ap (λ (z : Task). z.wait) same) ∙ r.waits in
    let arm : c.input_arm.result ≡ a = c.input_arm.ensures ∙ sym (input_of c.args.chan takes waits) in
    let wait : c.took-wait.result ≡ W.Took a.number a.indices (Some c.args.message) = c.took-wait.ensures ∙ ap (λ (x : Arm). W.Took x.number x.indices (Some c.args.message)) arm in
    record {
      tasks = c.set_wait.ensures t there ∙ ap (λ w. slice_set old n (Some (ready_with t w))) wait;
      ready = c.insert.ensures.items;
      awaiting = c.set_entry.ensures ∙ ap (λ w. set_all (channels_at w) None c.args.self.now.awaiting.items) (sym waits);
      trace = refl;
      offering = refl;
      parents = refl;
      unfinished = refl;
      fault = refl;
      used = refl;
    }
