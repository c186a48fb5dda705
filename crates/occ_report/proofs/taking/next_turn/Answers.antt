use Rattle.std.proofs.Common.{◌≡◌, ◌∙◌, ◌%◌, ◌<◌, ◌+◌, ◌^◌, ℕ, Some, sym, ap, subst, length}
use Rattle.std.specs.Prelude.{slice_get}
use Rattle.occ_machine.specs.declared.task.Task.{Task}
use Rattle.occ_machine.specs.Machine.{Stopping}
use Rattle.occ_net_replay.specs.Replay.{HasTask, ready_from, selected_process}
use Rattle.occ_net_replay.proofs.Tables.{task_once}
use Rattle.occ_net_tables.proofs.Branches.{has_body}
use Rattle.occ_net_tables.proofs.Turned.{are_bytes, body_small, chosen, has_turn, number_small, some_ready}
use Rattle.occ_proc.specs.Turns.{HasStop}
use Rattle.occ_report.proofs.Turns.{some_selected}
use Rattle.occ_report.proofs.taking.next_turn.Goals as goal

pub unreachable-requires : goal.unreachable-requires
unreachable-requires c =
    let p = c.args.code.now in
    let kb = c.args.keyboard.now in
    let n = c.args.tables.now in
    let s = c.requires in
    let toward = s.holds.sound.ready_is ∙ ap (ready_from 0) (sym s.holds.tasks) ∙ sym (c.ready.ensures p kb s.net s.holds) in
    some_selected c.ready.result.now c.args.which (subst (λ l. 0 < length l) toward (some_ready p kb n s)) (sym c.selected.ensures ∙ c.in_default.is)

pub unreachable-requires-in_default-body : goal.unreachable-requires-in_default-body
unreachable-requires-in_default-body c =
    let p = c.args.code.now in
    let kb = c.args.keyboard.now in
    let n = c.args.tables.now in
    let s = c.requires in
    let toward = s.holds.sound.ready_is ∙ ap (ready_from 0) (sym s.holds.tasks) ∙ sym (c.ready.ensures p kb s.net s.holds) in
    let place : ℕ = c.args.which % length c.ready.result.now in
    let number : ℕ = c.in-Some.number in
    let at : slice_get n.ready.items place ≡ Some number = ap (λ l. slice_get l place) toward ∙ sym c.selected.ensures ∙ c.in-Some.is in
    has_body p number (number_small p kb n s place number at) c.in_default-body.ensures.none

pub unreachable-requires-in_default-task : goal.unreachable-requires-in_default-task
unreachable-requires-in_default-task c =
    let p = c.args.code.now in
    let kb = c.args.keyboard.now in
    let n = c.args.tables.now in
    let s = c.requires in
    let toward = s.holds.sound.ready_is ∙ ap (ready_from 0) (sym s.holds.tasks) ∙ sym (c.ready.ensures p kb s.net s.holds) in
    let place : ℕ = c.args.which % length c.ready.result.now in
    let number : ℕ = c.in-Some.number in
    let at : slice_get n.ready.items place ≡ Some number = ap (λ l. slice_get l place) toward ∙ sym c.selected.ensures ∙ c.in-Some.is in
    let x = chosen p kb n s place number at in
    c.in_default-task.ensures.none p kb s.net x.task s.holds (ap (λ l. slice_get l number) s.holds.tasks ∙ x.there)

pub advance-requires-clause-small : goal.advance-requires-clause-small
advance-requires-clause-small c = body_small c.args.code.now c.in-Some.number c.deref.result.now c.compiled.ensures (c.in-Some-body.ensures.some ∙ ap Some (sym c.deref.ensures))

pub advance-requires-clause-counts : goal.advance-requires-clause-counts
advance-requires-clause-counts c =
    let p = c.args.code.now in
    let kb = c.args.keyboard.now in
    let n = c.args.tables.now in
    let s = c.requires in
    let toward = s.holds.sound.ready_is ∙ ap (ready_from 0) (sym s.holds.tasks) ∙ sym (c.ready.ensures p kb s.net s.holds) in
    let place : ℕ = c.args.which % length c.ready.result.now in
    let number : ℕ = c.in-Some.number in
    let at : slice_get n.ready.items place ≡ Some number = ap (λ l. slice_get l place) toward ∙ sym c.selected.ensures ∙ c.in-Some.is in
    let has = c.in-Some-body.ensures.some ∙ ap Some (sym c.deref.ensures) in
    let turn = has_turn p kb n s c.compiled.ensures (are_bytes kb (λ k. (c.type_inv.keyboard k).fits)) place number c.deref.result.now at has in
    let t : Task = c.in-Some-task.task.now in
    let there : HasTask n.tasks.items number t = ap (λ l. slice_get l number) (sym s.holds.tasks) ∙ c.in-Some-task.ensures.some p kb s.net s.holds in
    let same : turn.task ≡ c.in_ok-after.after = task_once n.tasks.items number turn.there there ∙ sym c.in_ok-after.ensures in
    subst (λ (z : Task). z.turns + 1 < 2 ^ 64) same turn.counts

pub advance-requires-clause-stops : goal.advance-requires-clause-stops
advance-requires-clause-stops c =
    let p = c.args.code.now in
    let kb = c.args.keyboard.now in
    let n = c.args.tables.now in
    let s = c.requires in
    let toward = s.holds.sound.ready_is ∙ ap (ready_from 0) (sym s.holds.tasks) ∙ sym (c.ready.ensures p kb s.net s.holds) in
    let place : ℕ = c.args.which % length c.ready.result.now in
    let number : ℕ = c.in-Some.number in
    let at : slice_get n.ready.items place ≡ Some number = ap (λ l. slice_get l place) toward ∙ sym c.selected.ensures ∙ c.in-Some.is in
    let has = c.in-Some-body.ensures.some ∙ ap Some (sym c.deref.ensures) in
    let turn = has_turn p kb n s c.compiled.ensures (are_bytes kb (λ k. (c.type_inv.keyboard k).fits)) place number c.deref.result.now at has in
    let t : Task = c.in-Some-task.task.now in
    let there : HasTask n.tasks.items number t = ap (λ l. slice_get l number) (sym s.holds.tasks) ∙ c.in-Some-task.ensures.some p kb s.net s.holds in
    let same : turn.task ≡ c.in_ok-after.after = task_once n.tasks.items number turn.there there ∙ sym c.in_ok-after.ensures in
    subst (HasStop c.deref.result.now) same turn.stops

pub returns : goal.returns
returns c = λ net holds.
    let p = c.args.code.now in
    let kb = c.args.keyboard.now in
    record {
      body = c.deref.result.now;
      before = c.in-Some-task.task.now;
      selects = ap (λ l. selected_process l c.args.which) (sym (c.ready.ensures p kb net holds)) ∙ sym c.selected.ensures ∙ c.in-Some.is;
      has_body = c.in-Some-body.ensures.some ∙ ap Some (sym c.deref.ensures);
      has_task = c.in-Some-task.ensures.some p kb net holds;
      stops = subst (λ z. Stopping c.deref.result.now z c.advance.new.task) c.in_ok-after.ensures c.in_ok-advance.ensures;
    }
