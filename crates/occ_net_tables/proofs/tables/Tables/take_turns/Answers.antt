use Rattle.std.proofs.Common.{◌≡◌, ◌∙◌, ◌+◌, ◌-◌, ◌^◌, ◌<◌, ℕ, length, None, refl, sym, ap, Some, arith}
use Rattle.std.specs.Prelude.{slice_get}
use Rattle.occ_machine.specs.SameStop.{ready_with}
use Rattle.occ_machine.specs.declared.task.Task.{Task}
use Rattle.occ_choices.specs.Plans.{choices_of}
use Rattle.occ_proc.specs.Turns.{left_message, standing_at}
use Rattle.occ_net_tables.specs.declared.tables.Tables.{Tables}
use Rattle.occ_net_tables.proofs.OneChange.{get_some}
use Rattle.occ_net_tables.proofs.Branches.{has_body}
use Rattle.occ_net_tables.proofs.Rowed.{can_take_row, has_ended, last_of, leads, only_place, row_turns, turn_of, turns_last}
use Rattle.occ_net_tables.proofs.Turned.{are_bytes, body_small, chosen, number_small, read_at}
use Rattle.occ_net_tables.proofs.tables.Tables.take_turns.Goals as goal

pub unreachable-requires : goal.unreachable-requires
unreachable-requires c =
    let p = c.args.code.now in
    let kb = c.args.keyboard.now in
    let n = c.args.self.now in
    let a = c.requires.alone in
    let s = a.standing in
    let few : length s.choices + c.args.most < 2 ^ 64 = (let l = a.few in omega (arith, l, c.requires.within, c.requires.fits)) in
    let number : ℕ = c.index-number.result.now in
    let at = read_at n.ready.items 0 number (omega (arith, a.alone)) c.index-number.ensures in
    has_body p number (number_small p kb n s 0 number at) c.in_default.ensures.none

pub advance_task_row-requires-clause-small : goal.advance_task_row-requires-clause-small
advance_task_row-requires-clause-small c = body_small c.args.code.now c.index-number.result.now c.deref.result.now c.compiled.ensures (c.in-Some.ensures.some ∙ ap Some (sym c.deref.ensures))

pub advance_task_row-requires-clause-turns : goal.advance_task_row-requires-clause-turns
advance_task_row-requires-clause-turns c =
    let p = c.args.code.now in
    let kb = c.args.keyboard.now in
    let n = c.args.self.now in
    let a = c.requires.alone in
    let s = a.standing in
    let few : length s.choices + c.args.most < 2 ^ 64 = (let l = a.few in omega (arith, l, c.requires.within, c.requires.fits)) in
    let number : ℕ = c.index-number.result.now in
    let at = read_at n.ready.items 0 number (omega (arith, a.alone)) c.index-number.ensures in
    let bytes = are_bytes kb (λ k. (c.type_inv.keyboard k).fits) in
    let body = c.deref.result.now in
    let has = c.in-Some.ensures.some ∙ ap Some (sym c.deref.ensures) in
    let x = chosen p kb n s 0 number at in
    record { task = x.task; there = x.there; goes = can_take_row p kb c.compiled.ensures bytes n 0 number at body has x.task x.there s c.args.most few }

pub overflow_add-from : goal.overflow_add-from
overflow_add-from c =
    let count = c.in_ok-count.ensures.some in
    omega (arith, count, c.requires.within, c.requires.fits)

pub unreachable-requires-in_default-at : goal.unreachable-requires-in_default-at
unreachable-requires-in_default-at c =
    let count = c.in_ok-count.ensures.some in
    let within : c.args.from + (c.in_ok-count.count - 1) < length (choices_of c.args.plan.now) = omega (arith, count, c.requires.within) in
    let x = get_some (choices_of c.args.plan.now) (c.args.from + (c.in_ok-count.count - 1)) within in
    let never : Some x.0 ≡ None = sym x.1 ∙ sym c.at.ensures ∙ c.in_default-at.is in
    absurd cc

pub end_turn-requires : goal.end_turn-requires
end_turn-requires c =
    let p = c.args.code.now in
    let kb = c.args.keyboard.now in
    let n = c.args.self.now in
    let a = c.requires.alone in
    let s = a.standing in
    let few : length s.choices + c.args.most < 2 ^ 64 = (let l = a.few in omega (arith, l, c.requires.within, c.requires.fits)) in
    let number : ℕ = c.index-number.result.now in
    let at = read_at n.ready.items 0 number (omega (arith, a.alone)) c.index-number.ensures in
    let bytes = are_bytes kb (λ k. (c.type_inv.keyboard k).fits) in
    let body = c.deref.result.now in
    let has = c.in-Some.ensures.some ∙ ap Some (sym c.deref.ensures) in
    let x = chosen p kb n s 0 number at in
    let end = c.in_ok-count.end in
    let items = left_message c.advance_task_row.new.scratch in
    let mid : Tables = record { tasks = c.advance_task_row.new.tasks; ready = n.ready; offering = n.offering; awaiting = n.awaiting; parents = n.parents; unfinished = n.unfinished; fault = n.fault; used = n.used; trace = n.trace } in
    let e = c.in_ok-count.ensures.turns x.task x.there in
    let after : Task = ready_with e.last (standing_at end items e.last.wait) in
    let l = last_of p kb c.compiled.ensures bytes n 0 number at body has x.task x.there s c.args.most few c.in_ok-count.count after c.in_ok-count.ensures.some.0 c.in_ok-count.ensures.some.1 e.turns in
    let t = turn_of p kb c.compiled.ensures bytes n 0 number at body has x.task x.there l.before l.standing after l.stops in
    has_ended p kb n 0 number x.task x.there mid e.last e.is refl refl refl refl refl refl refl refl end items l.before l.standing t e.left

pub returns-clause-row : goal.returns-clause-row
returns-clause-row c = λ net h.
    let p = c.args.code.now in
    let kb = c.args.keyboard.now in
    let n = c.args.self.now in
    let a = c.requires.alone in
    let s = a.standing in
    let few : length s.choices + c.args.most < 2 ^ 64 = (let l = a.few in omega (arith, l, c.requires.within, c.requires.fits)) in
    let number : ℕ = c.index-number.result.now in
    let at = read_at n.ready.items 0 number (omega (arith, a.alone)) c.index-number.ensures in
    let bytes = are_bytes kb (λ k. (c.type_inv.keyboard k).fits) in
    let body = c.deref.result.now in
    let has = c.in-Some.ensures.some ∙ ap Some (sym c.deref.ensures) in
    let x = chosen p kb n s 0 number at in
    let end = c.in_ok-count.end in
    let items = left_message c.advance_task_row.new.scratch in
    let mid : Tables = record { tasks = c.advance_task_row.new.tasks; ready = n.ready; offering = n.offering; awaiting = n.awaiting; parents = n.parents; unfinished = n.unfinished; fault = n.fault; used = n.used; trace = n.trace } in
    let e = c.in_ok-count.ensures.turns x.task x.there in
    let after : Task = ready_with e.last (standing_at end items e.last.wait) in
    let l = last_of p kb c.compiled.ensures bytes n 0 number at body has x.task x.there s c.args.most few c.in_ok-count.count after c.in_ok-count.ensures.some.0 c.in_ok-count.ensures.some.1 e.turns in
    let t = turn_of p kb c.compiled.ensures bytes n 0 number at body has x.task x.there l.before l.standing after l.stops in
    let list = choices_of c.args.plan.now in
    let ld = leads p kb c.compiled.ensures bytes n 0 number at body has x.task x.there s c.args.most few a.going a.alone list c.args.from c.requires.within net h l.turns l.before l.less l.row l.follows in
    let choice = c.in-Some-at.last in
    let place : c.args.from + (c.in_ok-count.count - 1) ≡ c.args.from + l.turns = omega (arith, l.is) in
    let chosen_by : slice_get list (c.args.from + l.turns) ≡ Some choice = ap (slice_get list) (sym place) ∙ sym c.at.ensures ∙ c.in-Some-at.is in
    let own = only_place n 0 number choice.which at a.alone in
    let x' = turns_last p kb n 0 number x.task x.there mid e.last e.is refl refl refl refl refl refl refl refl end items l.before l.standing t choice.pick _ c.in_ok-going.ensures.turn ld.next ld.holds choice own refl in
    row_turns p kb c.compiled.ensures bytes n 0 number at body has x.task x.there s c.args.most few a.going a.alone list c.args.from c.requires.within net h c.in_ok-count.count l.turns l.is l.before ld choice chosen_by _ x'
