use Rattle.std.proofs.Common.{◌≡◌, ◌∙◌, ◌%◌, ◌+◌, ◌*◌, ◌<◌, ℕ, refl, sym, ap, subst, length, Some, IsTrue, arith}
use Rattle.std.specs.Prelude.{slice_get, slice_set}
use Rattle.std.proofs.lemmas.Nat.{mod-mul-add}
use Rattle.std.proofs.lemmas.Option.{slice_get_within}
use Rattle.occ_machine.specs.declared.task.Task.{Task}
use Rattle.occ_machine.specs.declared.task.Wait.{Wait}
use Rattle.occ_net_replay.specs.Replay.{made_ready, may_go}
use Rattle.occ_net_replay.proofs.Tables.{set_same, task_once}
use Rattle.occ_net_tables.specs.declared.tables.Tables.{Tables}
use Rattle.occ_net_tables.specs.Settling.{SettlesTo, tables_with}
use Rattle.occ_net_tables.specs.Tasks.{Advanced}
use Rattle.occ_net_tables.proofs.OneChange.{set_twice}
use Rattle.occ_net_tables.proofs.Roomy.{set_again}
use Rattle.occ_net_tables.proofs.Turned.{are_bytes, chosen, mid_for, turns_to}
use Rattle.occ_net_tables.proofs.tables.Tables.settle_last.Goals as goal

pub swap_task-before-requires : goal.swap_task-before-requires
swap_task-before-requires c = record { task = c.requires.first; there = c.requires.there }

pub settle-requires : goal.settle-requires
settle-requires c =
    let p = c.args.code.now in
    let kb = c.args.keyboard.now in
    let n = c.args.self.now in
    let number = c.args.number in
    let m : Tables = tables_with n number c.requires.last in
    let t = c.requires.turn in
    let s = c.requires.standing in
    let x = chosen p kb m s c.args.place number t.at in
    let may : IsTrue (may_go t.before.wait) = subst (λ (z : Task). IsTrue (may_go z.wait)) (task_once m.tasks.items number x.there t.there) x.may in
    let ready : record c.args.after { wait = c.replace-wait.new.dest } ≡ made_ready c.args.after = ap (λ (v : Wait). record c.args.after { wait = v }) c.replace-wait.ensures.after in
    let new : Tables = record { tasks = c.swap_task-before.new.tasks; ready = n.ready; offering = n.offering; awaiting = n.awaiting; parents = n.parents; unfinished = n.unfinished; fault = n.fault; used = n.used; trace = n.trace } in
    let adv : Advanced t.body m.tasks.items number t.before c.replace-wait.result new.tasks.items =
    record {
      after = c.args.after;
      stops = t.stops;
      waits = sym c.replace-wait.ensures.value;
      is = c.swap_task-before.ensures.tasks ∙ ap (λ (z : Task). slice_set n.tasks.items number (Some z)) ready ∙ sym (set_twice n.tasks.items number (Some c.requires.last) (Some (made_ready c.args.after)));
    }
    in
    record {
      keyboard = kb;
      after = c.args.after;
      net = s.net;
      mid = mid_for p kb m s c.compiled.ensures (are_bytes kb (λ k. (c.type_inv.keyboard k).fits)) c.args.place number t.body t.at t.has_body t.before t.there may c.replace-wait.result new adv s.net s.holds refl refl refl refl refl refl refl refl;
      waits = sym c.replace-wait.ensures.value;
    }

pub returns-in-Ok-clause-ok : goal.returns-in-Ok-clause-ok
returns-in-Ok-clause-ok c = (
  c.swap_task-before.ensures.task,
  λ last net choice s t h place pick.
      let p = c.args.code.now in
      let kb = c.args.keyboard.now in
      let n = c.args.self.now in
      let number = c.args.number in
      let m : Tables = tables_with n number last in
      let x = chosen p kb m s c.args.place number t.at in
      let may : IsTrue (may_go t.before.wait) = subst (λ (z : Task). IsTrue (may_go z.wait)) (task_once m.tasks.items number x.there t.there) x.may in
      let ready : record c.args.after { wait = c.replace-wait.new.dest } ≡ made_ready c.args.after = ap (λ (v : Wait). record c.args.after { wait = v }) c.replace-wait.ensures.after in
      let new : Tables = record { tasks = c.swap_task-before.new.tasks; ready = n.ready; offering = n.offering; awaiting = n.awaiting; parents = n.parents; unfinished = n.unfinished; fault = n.fault; used = n.used; trace = n.trace } in
      let adv : Advanced t.body m.tasks.items number t.before c.replace-wait.result new.tasks.items =
      record {
        after = c.args.after;
        stops = t.stops;
        waits = sym c.replace-wait.ensures.value;
        is = c.swap_task-before.ensures.tasks ∙ ap (λ (z : Task). slice_set n.tasks.items number (Some z)) ready ∙ sym (set_twice n.tasks.items number (Some last) (Some (made_ready c.args.after)));
      }
      in
      let bytes = are_bytes kb (λ k. (c.type_inv.keyboard k).fits) in
      let mid = mid_for p kb m s c.compiled.ensures bytes c.args.place number t.body t.at t.has_body t.before t.there may c.replace-wait.result new adv net h refl refl refl refl refl refl refl refl in
      let within : c.args.place < length n.ready.items = slice_get_within n.ready.items c.args.place number t.at in
      let as_sum : c.args.place ≡ 0 * length n.ready.items + c.args.place = omega arith in
      let least : c.args.place % length n.ready.items ≡ c.args.place = ap (λ (k : ℕ). k % length n.ready.items) as_sum ∙ mod-mul-add 0 (length n.ready.items) c.args.place within in
      let own : c.args.place ≡ choice.which % length n.ready.items = sym least ∙ ap (λ (k : ℕ). k % length n.ready.items) place in
      turns_to p kb m s c.compiled.ensures bytes c.args.place number t.body t.at t.has_body t.before t.there may c.replace-wait.result new adv choice net c.settle.new.self h own
      (subst (λ (k : ℕ). SettlesTo p kb k number c.args.after net c.settle.new.self) pick (c.in-Ok.ensures.ok c.args.after net mid (sym c.replace-wait.ensures.value))),
)

pub swap_task-task-requires : goal.swap_task-task-requires
swap_task-task-requires c =
    let old = c.args.self.now.tasks.items in
    let n = c.args.number in
    let same = c.in-Err.ensures.err.0 in
    let swapped : Task = record c.args.after { wait = c.replace-wait.new.dest } in
    record {
      task = swapped;
      there = ap (λ l. slice_get l n) (same.tasks ∙ c.swap_task-before.ensures.tasks) ∙ set_same old n (Some c.requires.first) (Some swapped) c.requires.there;
    }

pub returns-in-Err-clause-err : goal.returns-in-Err-clause-err
returns-in-Err-clause-err c =
    let old = c.args.self.now.tasks.items in
    let n = c.args.number in
    let same = c.in-Err.ensures.err.0 in
    let swapped : Task = record c.args.after { wait = c.replace-wait.new.dest } in
    let there = ap (λ l. slice_get l n) (same.tasks ∙ c.swap_task-before.ensures.tasks) ∙ set_same old n (Some c.requires.first) (Some swapped) c.requires.there in
    let back : c.swap_task-task.result ≡ swapped = task_once c.settle.new.self.tasks.items n c.swap_task-task.ensures.task there in
    let wait : c.in-Err.wait ≡ c.args.after.wait = c.in-Err.ensures.err.1 ∙ c.replace-wait.ensures.value in (
      record {
        tasks = set_again old c.settle.new.self.tasks.items c.swap_task-task.new.tasks.items n (Some c.swap_task-before.result) (Some swapped) c.swap_task-before.ensures.task (same.tasks ∙ c.swap_task-before.ensures.tasks) c.swap_task-task.ensures.tasks;
        ready = same.ready;
        offering = same.offering;
        awaiting = same.awaiting;
        parents = same.parents;
        unfinished = same.unfinished;
        fault = same.fault;
        used = same.used;
        trace = same.trace;
      },
      ap (λ (t : Task). record t { wait = c.in-Err.wait }) back ∙ ap (λ (v : Wait). record c.args.after { wait = v }) wait,
    )
