use Rattle.std.proofs.Common.{◌≡◌, ◌∙◌, refl, sym, ap, None, Some, arith}
use Rattle.std.specs.Prelude.{slice_get, slice_set}
use Rattle.occ_machine.specs.SameStop.{ready_with}
use Rattle.occ_machine.specs.declared.task.Wait.TheVariants as W
use Rattle.occ_net_replay.specs.Replay.{arm_chosen, made_ready}
use Rattle.occ_net_replay.specs.Waiting.{channels_of}
use Rattle.occ_net_tables.specs.Choosing.{keyboard_at, offered_by}
use Rattle.occ_net_tables.specs.Keys.{entry_in, set_all}
use Rattle.occ_net_tables.proofs.Arms.{chosen_where}
use Rattle.occ_net_tables.proofs.Between.{byte_within, giver_of, there_old, was_byte, was_taken}
use Rattle.occ_net_tables.proofs.Choices.{choice_waits, is_there, takes_it, was_skipped}
use Rattle.occ_net_tables.proofs.Steps.{at_choice}
use Rattle.occ_net_tables.proofs.Waits.{rests_listening, rising_of, sized_listening, light_of, within_of}
use Rattle.occ_net_tables.proofs.tables.Tables.choose.Goals as goal

pub rest-requires-clause-there : goal.rest-requires-clause-there
rest-requires-clause-there c = light_of c.requires.mid.0 c.args.self.now c.args.number c.args.place (W.Chooses c.args.pri c.args.arms) c.requires.mid.1

pub rest-requires-clause-within : goal.rest-requires-clause-within
rest-requires-clause-within c = within_of c.requires.mid.0 c.args.self.now c.args.number c.args.place (W.Chooses c.args.pri c.args.arms) c.requires.mid.1

pub returns-in_default-clause-ok : goal.returns-in_default-clause-ok
returns-in_default-clause-ok c = λ p after net mid w.
    let kb = c.args.keyboard.now in
    let old = c.args.self.now in
    let n = c.args.number in
    let place = c.args.place in
    let v = W.Chooses c.args.pri c.args.arms in
    let tasks = c.rest.ensures.tasks (made_ready after) (there_old p kb old n place after net mid) in
    let none : arm_chosen c.args.pri c.args.pick (offered_by (keyboard_at kb old.used) old.offering.items) c.args.arms ≡ None = chosen_where c.args.pri c.args.pick c.keyboard_channel-named.result (keyboard_at kb old.used) c.deref.result.now old.offering.items c.as_slice.result.now c.args.arms None c.in_default.ensures.arm c.keyboard_channel-named.ensures c.deref.ensures.value c.as_slice.ensures in
    let table = c.set_arms.ensures ∙ ap (λ l. set_all (channels_of l) (Some n) old.awaiting.items) c.as_slice-in_default.ensures in
    choice_waits p kb old n place after net mid c.args.pri c.args.arms w _ c.args.pick none tasks refl refl
    (rests_listening p kb old n place after net mid v at_choice w tasks c.rest.ensures.ready table) (sized_listening p kb old n place after net mid v tasks table)

pub set_wait-requires : goal.set_wait-requires
set_wait-requires c = light_of c.requires.mid.0 c.args.self.now c.args.number c.args.place (W.Chooses c.args.pri c.args.arms) c.requires.mid.1

pub returns-in_default-chan-clause-ok : goal.returns-in_default-chan-clause-ok
returns-in_default-chan-clause-ok c = λ p after net mid w.
    let kb = c.args.keyboard.now in
    let old = c.args.self.now in
    let n = c.args.number in
    let a = c.in-Ok.arm in
    let item = sym c.in-Ok.ensures ∙ ap (λ l. slice_get l c.in-Some.at) (c.as_slice-2.ensures ∙ sym c.as_slice.ensures) ∙ c.in-Some.ensures.arm in
    let some : arm_chosen c.args.pri c.args.pick (offered_by (keyboard_at kb old.used) old.offering.items) c.args.arms ≡ Some a = chosen_where c.args.pri c.args.pick c.keyboard_channel-named.result (keyboard_at kb old.used) c.deref.result.now old.offering.items c.as_slice.result.now c.args.arms (Some a) item c.keyboard_channel-named.ensures c.deref.ensures.value c.as_slice.ensures in
    let tasks = c.set_wait.ensures (made_ready after) (there_old p kb old n c.args.place after net mid) ∙ ap (λ v. slice_set old.tasks.items n (Some (ready_with (made_ready after) v))) c.took.ensures in
    was_skipped p kb old n c.args.place after net mid c.args.pri c.args.arms w _ c.args.pick a some c.in_default-chan.is tasks refl refl refl refl refl refl refl refl

pub take_byte-requires-clause-there : goal.take_byte-requires-clause-there
take_byte-requires-clause-there c = light_of c.requires.mid.0 c.args.self.now c.args.number c.args.place (W.Chooses c.args.pri c.args.arms) c.requires.mid.1

pub take_byte-requires-clause-counts : goal.take_byte-requires-clause-counts
take_byte-requires-clause-counts c = let h = byte_within c.in-Some-chan.chan c.args.keyboard.now c.args.self.now.used c.in-Some-next_byte.byte (sym c.next_byte.ensures ∙ c.in-Some-next_byte.is) in omega (arith, h)

pub returns-in-Ok-take_byte-clause-ok : goal.returns-in-Ok-take_byte-clause-ok
returns-in-Ok-take_byte-clause-ok c = λ p after net mid w.
    let kb = c.args.keyboard.now in
    let old = c.args.self.now in
    let n = c.args.number in
    let a = c.in-Ok.arm in
    let item = sym c.in-Ok.ensures ∙ ap (λ l. slice_get l c.in-Some.at) (c.as_slice-2.ensures ∙ sym c.as_slice.ensures) ∙ c.in-Some.ensures.arm in
    let some : arm_chosen c.args.pri c.args.pick (offered_by (keyboard_at kb old.used) old.offering.items) c.args.arms ≡ Some a = chosen_where c.args.pri c.args.pick c.keyboard_channel-named.result (keyboard_at kb old.used) c.deref.result.now old.offering.items c.as_slice.result.now c.args.arms (Some a) item c.keyboard_channel-named.ensures c.deref.ensures.value c.as_slice.ensures in
    was_byte p kb old n c.args.place after net mid _ c.args.pick c.in-Some-chan.chan c.in-Some-next_byte.byte a (takes_it p kb old n c.args.place after net mid c.args.pri c.args.arms w c.args.pick c.in-Some-chan.chan a some c.in-Some-chan.is) (sym c.next_byte.ensures ∙ c.in-Some-next_byte.is) c.in-Ok-take_byte.ensures.ok

pub unreachable-requires : goal.unreachable-requires
unreachable-requires c =
    let h = c.requires.mid.1 in
    let kb = c.args.keyboard.now in
    let old = c.args.self.now in
    let a = c.in-Ok.arm in
    let item = sym c.in-Ok.ensures ∙ ap (λ l. slice_get l c.in-Some.at) (c.as_slice-2.ensures ∙ sym c.as_slice.ensures) ∙ c.in-Some.ensures.arm in
    let some : arm_chosen c.args.pri c.args.pick (offered_by (keyboard_at kb old.used) old.offering.items) c.args.arms ≡ Some a = chosen_where c.args.pri c.args.pick c.keyboard_channel-named.result (keyboard_at kb old.used) c.deref.result.now old.offering.items c.as_slice.result.now c.args.arms (Some a) item c.keyboard_channel-named.ensures c.deref.ensures.value c.as_slice.ensures in
    is_there kb old.used old.offering.items c.args.pri c.args.arms c.args.pick c.in-Some-chan.chan a some c.in-Some-chan.is (sym c.next_byte.ensures ∙ c.in_default-next_byte.is) (ap (λ t. entry_in t c.in-Some-chan.chan) (sym c.deref-2.ensures.value) ∙ sym c.entry.ensures ∙ c.in_default-entry.is)

pub take_from-requires-clause-there : goal.take_from-requires-clause-there
take_from-requires-clause-there c = light_of c.requires.mid.0 c.args.self.now c.args.number c.args.place (W.Chooses c.args.pri c.args.arms) c.requires.mid.1

pub take_from-requires-clause-offers : goal.take_from-requires-clause-offers
take_from-requires-clause-offers c =
    let h = c.requires.mid.1 in
    (giver_of c.requires.mid.0 h.keyboard c.args.self.now c.args.number c.args.place h.after h.net h.mid c.in-Some-chan.chan c.in-Some-entry.giver (ap (λ t. entry_in t c.in-Some-chan.chan) (sym c.deref-2.ensures.value) ∙ sym c.entry.ensures ∙ c.in-Some-entry.is)).offering

pub take_from-requires-clause-apart : goal.take_from-requires-clause-apart
take_from-requires-clause-apart c =
    let h = c.requires.mid.1 in
    λ e. (giver_of c.requires.mid.0 h.keyboard c.args.self.now c.args.number c.args.place h.after h.net h.mid c.in-Some-chan.chan c.in-Some-entry.giver (ap (λ t. entry_in t c.in-Some-chan.chan) (sym c.deref-2.ensures.value) ∙ sym c.entry.ensures ∙ c.in-Some-entry.is)).apart (sym e)

pub take_from-requires-clause-rising : goal.take_from-requires-clause-rising
take_from-requires-clause-rising c = rising_of c.requires.mid.0 c.args.self.now c.args.number c.args.place (W.Chooses c.args.pri c.args.arms) c.requires.mid.1

pub returns-in-Ok-take_from-clause-ok : goal.returns-in-Ok-take_from-clause-ok
returns-in-Ok-take_from-clause-ok c = λ p after net mid w.
    let kb = c.args.keyboard.now in
    let old = c.args.self.now in
    let n = c.args.number in
    let a = c.in-Ok.arm in
    let item = sym c.in-Ok.ensures ∙ ap (λ l. slice_get l c.in-Some.at) (c.as_slice-2.ensures ∙ sym c.as_slice.ensures) ∙ c.in-Some.ensures.arm in
    let some : arm_chosen c.args.pri c.args.pick (offered_by (keyboard_at kb old.used) old.offering.items) c.args.arms ≡ Some a = chosen_where c.args.pri c.args.pick c.keyboard_channel-named.result (keyboard_at kb old.used) c.deref.result.now old.offering.items c.as_slice.result.now c.args.arms (Some a) item c.keyboard_channel-named.ensures c.deref.ensures.value c.as_slice.ensures in
    was_taken p kb old n c.args.place after net mid _ c.args.pick c.in-Some-chan.chan c.in-Some-entry.giver a (takes_it p kb old n c.args.place after net mid c.args.pri c.args.arms w c.args.pick c.in-Some-chan.chan a some c.in-Some-chan.is) (ap (λ t. entry_in t c.in-Some-chan.chan) (sym c.deref-2.ensures.value) ∙ sym c.entry.ensures ∙ c.in-Some-entry.is) c.in-Ok-take_from.ensures.ok
