use Rattle.std.proofs.Common.{◌≡◌, ◌∙◌, ap, arith, of_z, refl, rules, subst, sym, to_z, w64}
use Rattle.occ_machine.specs.SameStop.{ready_with}
use Rattle.occ_machine.specs.declared.task.Task.{Task}
use Rattle.occ_machine.specs.declared.task.Wait.TheVariants as W
use Rattle.occ_proc.specs.Turns.{IsLeftReady, left_message, one_message, standing_at}
use Rattle.occ_net_replay.specs.Replay.{is_done, noted_at}
use Rattle.occ_net_replay.proofs.Tables.{task_once}
use Rattle.occ_net_tables.specs.Settling.{SettlesTo, tables_with}
use Rattle.occ_net_tables.proofs.Between.{goes_on}
use Rattle.occ_net_tables.proofs.Going.{goes_where_some}
use Rattle.occ_net_tables.proofs.Rowed.{mid_behind, own_place, stays_open, tasks_left, turns_behind}
use Rattle.occ_net_tables.proofs.Turned.{are_bytes}
use Rattle.occ_net_tables.proofs.tables.Tables.end_turn.Goals as goal

pub returns-in-Ready-clause-turn : goal.returns-in-Ready-clause-turn
returns-in-Ready-clause-turn c =
    let p = c.args.code.now in
    let kb = c.args.keyboard.now in
    let n = c.args.self.now in
    let number = c.args.begun.number in
    let place = c.args.begun.place in
    let items = left_message c.args.scratch.now in
    let bytes = are_bytes kb (λ k. (c.type_inv.keyboard k).fits) in
    let r = c.requires in
    λ left there last net choice s t h own pick.
    let same : r.left ≡ left = task_once n.tasks.items number r.there there in
    let after : Task = ready_with left (standing_at c.args.begun.end items left.wait) in
    let waits : after.wait ≡ W.Ready = ap (λ e. standing_at e items left.wait) c.in-Ready.is in
    let ready : left.wait ≡ W.Ready = subst (λ (z : Task). z.wait ≡ W.Ready) same (subst (λ e. IsLeftReady e r.left.wait) c.in-Ready.is r.ready) in
    let tasks = tasks_left n number left there ready (standing_at c.args.begun.end items left.wait) in
    let mid = mid_behind p kb c.compiled.ensures bytes n place number after last s t n tasks net h refl refl refl refl refl refl refl refl in
    turns_behind p kb c.compiled.ensures bytes n place number after last s t n tasks net h choice (own_place n place number choice.which t.at own) _
    (goes_on p kb n number place after net mid n choice.pick waits refl refl refl mid.sound mid.sized)

pub returns-in-Ready-clause-going : goal.returns-in-Ready-clause-going
returns-in-Ready-clause-going c =
    let p = c.args.code.now in
    let kb = c.args.keyboard.now in
    let n = c.args.self.now in
    let number = c.args.begun.number in
    let place = c.args.begun.place in
    let items = left_message c.args.scratch.now in
    let bytes = are_bytes kb (λ k. (c.type_inv.keyboard k).fits) in
    let r = c.requires in
    let after : Task = ready_with r.left (standing_at c.args.begun.end items r.left.wait) in
    let waits : after.wait ≡ W.Ready = ap (λ e. standing_at e items r.left.wait) c.in-Ready.is in
    let ready : r.left.wait ≡ W.Ready = subst (λ e. IsLeftReady e r.left.wait) c.in-Ready.is r.ready in
    let tasks = tasks_left n number r.left r.there ready (standing_at c.args.begun.end items r.left.wait) in
    let s = r.behind.standing in
    let mid = mid_behind p kb c.compiled.ensures bytes n place number after r.behind.last s r.behind.turn n tasks s.net s.holds refl refl refl refl refl refl refl refl in
    λ going. stays_open p kb n place number r.left r.there ready r.behind.last s

pub settle_offer-requires : goal.settle_offer-requires
settle_offer-requires c =
    let p = c.args.code.now in
    let kb = c.args.keyboard.now in
    let n = c.args.self.now in
    let number = c.args.begun.number in
    let place = c.args.begun.place in
    let items = left_message c.args.scratch.now in
    let bytes = are_bytes kb (λ k. (c.type_inv.keyboard k).fits) in
    let r = c.requires in
    let after : Task = ready_with r.left (standing_at c.args.begun.end items r.left.wait) in
    let waits : after.wait ≡ W.Offers c.in-Offers.chan c.take_message-message.result = ap (λ e. standing_at e items r.left.wait) c.in-Offers.is ∙ ap (λ m. W.Offers c.in-Offers.chan m) (sym c.take_message-message.ensures) in
    let ready : r.left.wait ≡ W.Ready = subst (λ e. IsLeftReady e r.left.wait) c.in-Offers.is r.ready in
    let tasks = tasks_left n number r.left r.there ready (standing_at c.args.begun.end items r.left.wait) in
    let s = r.behind.standing in
    let mid = mid_behind p kb c.compiled.ensures bytes n place number after r.behind.last s r.behind.turn n tasks s.net s.holds refl refl refl refl refl refl refl refl in
    (p, record { keyboard = kb; after = after; net = s.net; mid = mid; waits = waits })

pub settle_offer-requires-in-OffersOne : goal.settle_offer-requires-in-OffersOne
settle_offer-requires-in-OffersOne c =
    let p = c.args.code.now in
    let kb = c.args.keyboard.now in
    let n = c.args.self.now in
    let number = c.args.begun.number in
    let place = c.args.begun.place in
    let items = left_message c.args.scratch.now in
    let bytes = are_bytes kb (λ k. (c.type_inv.keyboard k).fits) in
    let r = c.requires in
    let after : Task = ready_with r.left (standing_at c.args.begun.end items r.left.wait) in
    let held : to_z w64 (of_z w64 c.in-OffersOne.value) ≡ c.in-OffersOne.value = search rules in
    let waits : after.wait ≡ W.Offers c.in-OffersOne.chan c.one_message-message.result = ap (λ e. standing_at e items r.left.wait) c.in-OffersOne.is ∙ ap (λ m. W.Offers c.in-OffersOne.chan m) (sym (c.one_message-message.ensures ∙ ap (one_message c.in-OffersOne.primitive) held)) in
    let ready : r.left.wait ≡ W.Ready = subst (λ e. IsLeftReady e r.left.wait) c.in-OffersOne.is r.ready in
    let tasks = tasks_left n number r.left r.there ready (standing_at c.args.begun.end items r.left.wait) in
    let s = r.behind.standing in
    let mid = mid_behind p kb c.compiled.ensures bytes n place number after r.behind.last s r.behind.turn n tasks s.net s.holds refl refl refl refl refl refl refl refl in
    (p, record { keyboard = kb; after = after; net = s.net; mid = mid; waits = waits })

pub settle_input-requires : goal.settle_input-requires
settle_input-requires c =
    let p = c.args.code.now in
    let kb = c.args.keyboard.now in
    let n = c.args.self.now in
    let number = c.args.begun.number in
    let place = c.args.begun.place in
    let items = left_message c.args.scratch.now in
    let bytes = are_bytes kb (λ k. (c.type_inv.keyboard k).fits) in
    let r = c.requires in
    let after : Task = ready_with r.left (standing_at c.args.begun.end items r.left.wait) in
    let waits : after.wait ≡ W.Awaits c.in-Awaits.chan = ap (λ e. standing_at e items r.left.wait) c.in-Awaits.is in
    let ready : r.left.wait ≡ W.Ready = subst (λ e. IsLeftReady e r.left.wait) c.in-Awaits.is r.ready in
    let tasks = tasks_left n number r.left r.there ready (standing_at c.args.begun.end items r.left.wait) in
    let s = r.behind.standing in
    let mid = mid_behind p kb c.compiled.ensures bytes n place number after r.behind.last s r.behind.turn n tasks s.net s.holds refl refl refl refl refl refl refl refl in
    (p, record { keyboard = kb; after = after; net = s.net; mid = mid; waits = waits })

pub settle_wait-requires : goal.settle_wait-requires
settle_wait-requires c =
    let p = c.args.code.now in
    let kb = c.args.keyboard.now in
    let n = c.args.self.now in
    let number = c.args.begun.number in
    let place = c.args.begun.place in
    let items = left_message c.args.scratch.now in
    let bytes = are_bytes kb (λ k. (c.type_inv.keyboard k).fits) in
    let r = c.requires in
    let after : Task = ready_with r.left (standing_at c.args.begun.end items r.left.wait) in
    let waits : after.wait ≡ r.left.wait = ap (λ e. standing_at e items r.left.wait) c.in-Other.is in
    let s = r.behind.standing in
    record {
      task = r.left;
      there = r.there;
      mid = λ between left.
          record {
            keyboard = kb;
            after = after;
            net = s.net;
            mid = mid_behind p kb c.compiled.ensures bytes n place number after r.behind.last s r.behind.turn between left.tasks s.net s.holds left.ready left.offering left.awaiting left.parents left.unfinished left.fault left.used left.trace;
            waits = waits;
          };
    }

pub returns-in_ok-settle_offer-in-Offers-clause-turn : goal.returns-in_ok-settle_offer-in-Offers-clause-turn
returns-in_ok-settle_offer-in-Offers-clause-turn c =
    let p = c.args.code.now in
    let kb = c.args.keyboard.now in
    let n = c.args.self.now in
    let number = c.args.begun.number in
    let place = c.args.begun.place in
    let items = left_message c.args.scratch.now in
    let bytes = are_bytes kb (λ k. (c.type_inv.keyboard k).fits) in
    let r = c.requires in
    λ left there last net choice s t h own pick.
    let same : r.left ≡ left = task_once n.tasks.items number r.there there in
    let after : Task = ready_with left (standing_at c.args.begun.end items left.wait) in
    let waits : after.wait ≡ W.Offers c.in-Offers.chan c.take_message-message.result = ap (λ e. standing_at e items left.wait) c.in-Offers.is ∙ ap (λ m. W.Offers c.in-Offers.chan m) (sym c.take_message-message.ensures) in
    let ready : left.wait ≡ W.Ready = subst (λ (z : Task). z.wait ≡ W.Ready) same (subst (λ e. IsLeftReady e r.left.wait) c.in-Offers.is r.ready) in
    let tasks = tasks_left n number left there ready (standing_at c.args.begun.end items left.wait) in
    let mid = mid_behind p kb c.compiled.ensures bytes n place number after last s t n tasks net h refl refl refl refl refl refl refl refl in
    turns_behind p kb c.compiled.ensures bytes n place number after last s t n tasks net h choice (own_place n place number choice.which t.at own) _
    (subst (λ k. SettlesTo p kb k number after net c.settle_offer.new.self) pick (c.in_ok-settle_offer-in-Offers.ensures p kb after net mid waits))

pub returns-in_ok-settle_offer-in-OffersOne-clause-turn : goal.returns-in_ok-settle_offer-in-OffersOne-clause-turn
returns-in_ok-settle_offer-in-OffersOne-clause-turn c =
    let p = c.args.code.now in
    let kb = c.args.keyboard.now in
    let n = c.args.self.now in
    let number = c.args.begun.number in
    let place = c.args.begun.place in
    let items = left_message c.args.scratch.now in
    let bytes = are_bytes kb (λ k. (c.type_inv.keyboard k).fits) in
    let r = c.requires in
    λ left there last net choice s t h own pick.
    let same : r.left ≡ left = task_once n.tasks.items number r.there there in
    let after : Task = ready_with left (standing_at c.args.begun.end items left.wait) in
    let held : to_z w64 (of_z w64 c.in-OffersOne.value) ≡ c.in-OffersOne.value = search rules in
    let waits : after.wait ≡ W.Offers c.in-OffersOne.chan c.one_message-message.result = ap (λ e. standing_at e items left.wait) c.in-OffersOne.is ∙ ap (λ m. W.Offers c.in-OffersOne.chan m) (sym (c.one_message-message.ensures ∙ ap (one_message c.in-OffersOne.primitive) held)) in
    let ready : left.wait ≡ W.Ready = subst (λ (z : Task). z.wait ≡ W.Ready) same (subst (λ e. IsLeftReady e r.left.wait) c.in-OffersOne.is r.ready) in
    let tasks = tasks_left n number left there ready (standing_at c.args.begun.end items left.wait) in
    let mid = mid_behind p kb c.compiled.ensures bytes n place number after last s t n tasks net h refl refl refl refl refl refl refl refl in
    turns_behind p kb c.compiled.ensures bytes n place number after last s t n tasks net h choice (own_place n place number choice.which t.at own) _
    (subst (λ k. SettlesTo p kb k number after net c.settle_offer-in-OffersOne.new.self) pick (c.in_ok-settle_offer-in-OffersOne.ensures p kb after net mid waits))

pub returns-in_ok-settle_offer-in-Offers-clause-going : goal.returns-in_ok-settle_offer-in-Offers-clause-going
returns-in_ok-settle_offer-in-Offers-clause-going c =
    let p = c.args.code.now in
    let kb = c.args.keyboard.now in
    let n = c.args.self.now in
    let number = c.args.begun.number in
    let place = c.args.begun.place in
    let items = left_message c.args.scratch.now in
    let bytes = are_bytes kb (λ k. (c.type_inv.keyboard k).fits) in
    let r = c.requires in
    let after : Task = ready_with r.left (standing_at c.args.begun.end items r.left.wait) in
    let waits : after.wait ≡ W.Offers c.in-Offers.chan c.take_message-message.result = ap (λ e. standing_at e items r.left.wait) c.in-Offers.is ∙ ap (λ m. W.Offers c.in-Offers.chan m) (sym c.take_message-message.ensures) in
    let ready : r.left.wait ≡ W.Ready = subst (λ e. IsLeftReady e r.left.wait) c.in-Offers.is r.ready in
    let tasks = tasks_left n number r.left r.there ready (standing_at c.args.begun.end items r.left.wait) in
    let s = r.behind.standing in
    let mid = mid_behind p kb c.compiled.ensures bytes n place number after r.behind.last s r.behind.turn n tasks s.net s.holds refl refl refl refl refl refl refl refl in
    λ going.
    let several = c.several_ready.ensures going in
    goes_where_some p kb (tables_with n number r.behind.last) s c.args.pick number mid.before after mid.has_task (ap is_done waits) (ap noted_at waits) (λ ns e. let q = sym waits ∙ e in cc) _ (c.in_ok-settle_offer-in-Offers.ensures p kb after s.net mid waits) (omega (arith, several))

pub returns-in_ok-settle_offer-in-OffersOne-clause-going : goal.returns-in_ok-settle_offer-in-OffersOne-clause-going
returns-in_ok-settle_offer-in-OffersOne-clause-going c =
    let p = c.args.code.now in
    let kb = c.args.keyboard.now in
    let n = c.args.self.now in
    let number = c.args.begun.number in
    let place = c.args.begun.place in
    let items = left_message c.args.scratch.now in
    let bytes = are_bytes kb (λ k. (c.type_inv.keyboard k).fits) in
    let r = c.requires in
    let after : Task = ready_with r.left (standing_at c.args.begun.end items r.left.wait) in
    let held : to_z w64 (of_z w64 c.in-OffersOne.value) ≡ c.in-OffersOne.value = search rules in
    let waits : after.wait ≡ W.Offers c.in-OffersOne.chan c.one_message-message.result = ap (λ e. standing_at e items r.left.wait) c.in-OffersOne.is ∙ ap (λ m. W.Offers c.in-OffersOne.chan m) (sym (c.one_message-message.ensures ∙ ap (one_message c.in-OffersOne.primitive) held)) in
    let ready : r.left.wait ≡ W.Ready = subst (λ e. IsLeftReady e r.left.wait) c.in-OffersOne.is r.ready in
    let tasks = tasks_left n number r.left r.there ready (standing_at c.args.begun.end items r.left.wait) in
    let s = r.behind.standing in
    let mid = mid_behind p kb c.compiled.ensures bytes n place number after r.behind.last s r.behind.turn n tasks s.net s.holds refl refl refl refl refl refl refl refl in
    λ going.
    let several = c.several_ready-in-OffersOne.ensures going in
    goes_where_some p kb (tables_with n number r.behind.last) s c.args.pick number mid.before after mid.has_task (ap is_done waits) (ap noted_at waits) (λ ns e. let q = sym waits ∙ e in cc) _ (c.in_ok-settle_offer-in-OffersOne.ensures p kb after s.net mid waits) (omega (arith, several))

pub returns-in_ok-settle_input-in-Awaits-clause-turn : goal.returns-in_ok-settle_input-in-Awaits-clause-turn
returns-in_ok-settle_input-in-Awaits-clause-turn c =
    let p = c.args.code.now in
    let kb = c.args.keyboard.now in
    let n = c.args.self.now in
    let number = c.args.begun.number in
    let place = c.args.begun.place in
    let items = left_message c.args.scratch.now in
    let bytes = are_bytes kb (λ k. (c.type_inv.keyboard k).fits) in
    let r = c.requires in
    λ left there last net choice s t h own pick.
    let same : r.left ≡ left = task_once n.tasks.items number r.there there in
    let after : Task = ready_with left (standing_at c.args.begun.end items left.wait) in
    let waits : after.wait ≡ W.Awaits c.in-Awaits.chan = ap (λ e. standing_at e items left.wait) c.in-Awaits.is in
    let ready : left.wait ≡ W.Ready = subst (λ (z : Task). z.wait ≡ W.Ready) same (subst (λ e. IsLeftReady e r.left.wait) c.in-Awaits.is r.ready) in
    let tasks = tasks_left n number left there ready (standing_at c.args.begun.end items left.wait) in
    let mid = mid_behind p kb c.compiled.ensures bytes n place number after last s t n tasks net h refl refl refl refl refl refl refl refl in
    turns_behind p kb c.compiled.ensures bytes n place number after last s t n tasks net h choice (own_place n place number choice.which t.at own) _
    (c.in_ok-settle_input-in-Awaits.ensures p choice.pick after net mid waits)

pub returns-in_ok-settle_input-in-Awaits-clause-going : goal.returns-in_ok-settle_input-in-Awaits-clause-going
returns-in_ok-settle_input-in-Awaits-clause-going c =
    let p = c.args.code.now in
    let kb = c.args.keyboard.now in
    let n = c.args.self.now in
    let number = c.args.begun.number in
    let place = c.args.begun.place in
    let items = left_message c.args.scratch.now in
    let bytes = are_bytes kb (λ k. (c.type_inv.keyboard k).fits) in
    let r = c.requires in
    let after : Task = ready_with r.left (standing_at c.args.begun.end items r.left.wait) in
    let waits : after.wait ≡ W.Awaits c.in-Awaits.chan = ap (λ e. standing_at e items r.left.wait) c.in-Awaits.is in
    let ready : r.left.wait ≡ W.Ready = subst (λ e. IsLeftReady e r.left.wait) c.in-Awaits.is r.ready in
    let tasks = tasks_left n number r.left r.there ready (standing_at c.args.begun.end items r.left.wait) in
    let s = r.behind.standing in
    let mid = mid_behind p kb c.compiled.ensures bytes n place number after r.behind.last s r.behind.turn n tasks s.net s.holds refl refl refl refl refl refl refl refl in
    λ going.
    let several = c.several_ready-in-Awaits.ensures going in
    goes_where_some p kb (tables_with n number r.behind.last) s c.args.pick number mid.before after mid.has_task (ap is_done waits) (ap noted_at waits) (λ ns e. let q = sym waits ∙ e in cc) _ (c.in_ok-settle_input-in-Awaits.ensures p c.args.pick after s.net mid waits) (omega (arith, several))

pub returns-in_ok-settle_wait-in-Other-clause-turn : goal.returns-in_ok-settle_wait-in-Other-clause-turn
returns-in_ok-settle_wait-in-Other-clause-turn c =
    let p = c.args.code.now in
    let kb = c.args.keyboard.now in
    let n = c.args.self.now in
    let number = c.args.begun.number in
    let place = c.args.begun.place in
    let items = left_message c.args.scratch.now in
    let bytes = are_bytes kb (λ k. (c.type_inv.keyboard k).fits) in
    λ left there last net choice s t h own pick.
    let after : Task = ready_with left (standing_at c.args.begun.end items left.wait) in
    let waits : after.wait ≡ left.wait = ap (λ e. standing_at e items left.wait) c.in-Other.is in
    let x = c.in_ok-settle_wait-in-Other.ensures left there in
    let l = x.left in
    let mid = mid_behind p kb c.compiled.ensures bytes n place number after last s t x.between l.tasks net h l.ready l.offering l.awaiting l.parents l.unfinished l.fault l.used l.trace in
    turns_behind p kb c.compiled.ensures bytes n place number after last s t x.between l.tasks net h choice (own_place n place number choice.which t.at own) _
    (subst (λ k. SettlesTo p kb k number after net c.settle_wait.new.self) pick (x.settles after net mid waits))
