use Rattle.std.proofs.Common.{◌∙◌, refl, sym, ap, length, Some}
use Rattle.occ_machine.specs.declared.task.Wait.TheVariants as W
use Rattle.occ_net_replay.specs.Replay.{made_ready}
use Rattle.occ_net_tables.specs.declared.tables.Tables.{Tables}
use Rattle.occ_net_tables.specs.Holding.{undone}
use Rattle.occ_net_tables.specs.Keys.{entry_in}
use Rattle.occ_net_tables.proofs.Between.{there_old}
use Rattle.occ_net_tables.proofs.Ends.{ends_alone, ends_before, ends_join, may_join, parent_of, then_done}
use Rattle.occ_net_tables.proofs.OneChange.{set_length}
use Rattle.occ_net_tables.proofs.Waits.{sized_at_rest, light_of, within_of}
use Rattle.occ_net_tables.proofs.tables.Tables.finish.Goals as goal

pub rest-requires-clause-there : goal.rest-requires-clause-there
rest-requires-clause-there c = light_of c.args.code.now c.args.self.now c.args.number c.args.place W.Done c.requires

pub rest-requires-clause-within : goal.rest-requires-clause-within
rest-requires-clause-within c = within_of c.args.code.now c.args.self.now c.args.number c.args.place W.Done c.requires

pub count_down-requires : goal.count_down-requires
count_down-requires c =
    let h = c.requires in
    let some = ap (λ t. entry_in t c.args.number) (sym c.deref.ensures.value) ∙ sym c.entry.ensures ∙ c.in-Some.is in
    let x = parent_of c.args.code.now h.keyboard c.args.self.now c.args.number c.args.place h.after h.net h.mid h.waits c.in-Some.parent some in
    record { fewer = undone (then_done c.args.code.now h.keyboard c.args.self.now c.args.number c.args.place h.after h.net h.mid h.waits) x.branches; is = x.count ∙ ap Some x.less }

pub join-requires-clause-joining : goal.join-requires-clause-joining
join-requires-clause-joining c =
    let h = c.requires in
    let some = ap (λ t. entry_in t c.args.number) (sym c.deref.ensures.value) ∙ sym c.entry.ensures ∙ c.in-Some.is in
    let x = parent_of c.args.code.now h.keyboard c.args.self.now c.args.number c.args.place h.after h.net h.mid h.waits c.in-Some.parent some in
    let counts = c.count_down.ensures (undone (then_done c.args.code.now h.keyboard c.args.self.now c.args.number c.args.place h.after h.net h.mid h.waits) x.branches) (x.count ∙ ap Some x.less) in
    let tasks = c.rest.ensures.tasks (made_ready h.after) (there_old c.args.code.now h.keyboard c.args.self.now c.args.number c.args.place h.after h.net h.mid) in
    may_join c.args.code.now h.keyboard c.args.self.now c.args.number c.args.place h.after h.net h.mid h.waits c.in-Some.parent some x (sym counts.left_is ∙ c.if-count_down-eq0.true) _ tasks c.rest.ensures.ready

pub returns-then-count_down-eq0 : goal.returns-then-count_down-eq0
returns-then-count_down-eq0 c = λ kb pick after net mid w.
    let p = c.args.code.now in
    let old = c.args.self.now in
    let n = c.args.number in
    let place = c.args.place in
    let some = ap (λ t. entry_in t n) (sym c.deref.ensures.value) ∙ sym c.entry.ensures ∙ c.in-Some.is in
    let x = parent_of p kb old n place after net mid w c.in-Some.parent some in
    let counts = c.count_down.ensures (undone (then_done p kb old n place after net mid w) x.branches) (x.count ∙ ap Some x.less) in
    let tasks = c.rest.ensures.tasks (made_ready after) (there_old p kb old n place after net mid) in
    let between : Tables = record { tasks = c.rest.new.tasks; ready = c.rest.new.ready; offering = old.offering; awaiting = old.awaiting; parents = old.parents; unfinished = c.count_down.new.counts; fault = old.fault; used = old.used; trace = old.trace } in
    ends_join p kb old n place after net mid w c.join.new.self between pick c.in-Some.parent some x (sym counts.left_is ∙ c.if-count_down-eq0.true) tasks refl refl c.rest.ensures.ready refl refl refl counts.counts_are refl c.join.ensures

pub returns-else-count_down-eq0 : goal.returns-else-count_down-eq0
returns-else-count_down-eq0 c = λ kb pick after net mid w.
    let p = c.args.code.now in
    let old = c.args.self.now in
    let n = c.args.number in
    let place = c.args.place in
    let some = ap (λ t. entry_in t n) (sym c.deref.ensures.value) ∙ sym c.entry.ensures ∙ c.in-Some.is in
    let x = parent_of p kb old n place after net mid w c.in-Some.parent some in
    let left = undone (then_done p kb old n place after net mid w) x.branches in
    let counts = c.count_down.ensures left (x.count ∙ ap Some x.less) in
    let tasks = c.rest.ensures.tasks (made_ready after) (there_old p kb old n place after net mid) in
    let z = sized_at_rest p kb old n place after net mid W.Done tasks in
    ends_before p kb old n place after net mid w _ pick c.in-Some.parent some x (λ e. c.if-count_down-eq0.false (counts.left_is ∙ e)) tasks refl refl c.rest.ensures.ready refl refl refl counts.counts_are refl
    (record { tasks_are = z.tasks_are; offering_is = z.offering_is; awaiting_is = z.awaiting_is; parents_are = z.parents_are; unfinished_are = ap length counts.counts_are ∙ set_length old.unfinished.items c.in-Some.parent left ∙ z.unfinished_are })

pub returns-in_default : goal.returns-in_default
returns-in_default c = λ kb pick after net mid w.
    let p = c.args.code.now in
    let old = c.args.self.now in
    let n = c.args.number in
    let place = c.args.place in
    let none = ap (λ t. entry_in t n) (sym c.deref.ensures.value) ∙ sym c.entry.ensures ∙ c.in_default.is in
    let tasks = c.rest.ensures.tasks (made_ready after) (there_old p kb old n place after net mid) in
    ends_alone p kb old n place after net mid w _ pick none tasks refl refl c.rest.ensures.ready refl refl refl refl refl (sized_at_rest p kb old n place after net mid W.Done tasks)
