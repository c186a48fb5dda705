use Rattle.std.proofs.Common.{◌∙◌, refl, sym, ap, subst, arith}
use Rattle.occ_machine.specs.declared.task.Wait.TheVariants as W
use Rattle.occ_net_replay.specs.Replay.{made_ready, standing}
use Rattle.occ_net_tables.specs.Choosing.{TakesBy, by_input, input_arm}
use Rattle.occ_net_tables.specs.Settling.{TookFrom}
use Rattle.occ_net_tables.specs.Keys.{entry_in}
use Rattle.occ_net_tables.proofs.Between.{now, there_old, byte_within, giver_of, was_byte, was_taken, await_waits}
use Rattle.occ_net_tables.proofs.Waits.{rising_of, within_of, light_of, rests_listening, sized_listening}
use Rattle.occ_net_tables.proofs.Steps.{at_input}
use Rattle.occ_net_tables.proofs.tables.Tables.await_on.Goals as goal

pub input_byte-requires-clause-there : goal.input_byte-requires-clause-there
input_byte-requires-clause-there c = light_of c.requires.mid.0 c.args.self.now c.args.number c.args.place (W.Awaits c.args.chan) c.requires.mid.1

pub input_byte-requires-clause-counts : goal.input_byte-requires-clause-counts
input_byte-requires-clause-counts c = let h = byte_within c.args.chan c.args.keyboard.now c.args.self.now.used c.in-Some.byte (sym c.next_byte.ensures ∙ c.in-Some.is) in omega (arith, h)

pub returns-in-Some-clause-ok : goal.returns-in-Some-clause-ok
returns-in-Some-clause-ok c = λ p pick after net mid w.
    let by : TakesBy pick (standing (now p c.args.keyboard.now c.args.self.now c.args.number c.args.place after net mid)) c.args.chan after.wait (input_arm c.args.chan) = subst (λ z. TakesBy pick (standing (now p c.args.keyboard.now c.args.self.now c.args.number c.args.place after net mid)) c.args.chan z (input_arm c.args.chan)) (sym w) by_input in
    was_byte p c.args.keyboard.now c.args.self.now c.args.number c.args.place after net mid _ pick c.args.chan c.in-Some.byte (input_arm c.args.chan) by (sym c.next_byte.ensures ∙ c.in-Some.is) c.in_ok-input_byte.ensures.ok

pub take_from-requires-clause-there : goal.take_from-requires-clause-there
take_from-requires-clause-there c = light_of c.requires.mid.0 c.args.self.now c.args.number c.args.place (W.Awaits c.args.chan) c.requires.mid.1

pub take_from-requires-clause-offers : goal.take_from-requires-clause-offers
take_from-requires-clause-offers c =
    let h = c.requires.mid.1 in
    (giver_of c.requires.mid.0 h.keyboard c.args.self.now c.args.number c.args.place h.after h.net h.mid c.args.chan c.in-Some-entry.giver (ap (λ t. entry_in t c.args.chan) (sym c.deref.ensures.value) ∙ sym c.entry.ensures ∙ c.in-Some-entry.is)).offering

pub take_from-requires-clause-apart : goal.take_from-requires-clause-apart
take_from-requires-clause-apart c =
    let h = c.requires.mid.1 in
    λ e. (giver_of c.requires.mid.0 h.keyboard c.args.self.now c.args.number c.args.place h.after h.net h.mid c.args.chan c.in-Some-entry.giver (ap (λ t. entry_in t c.args.chan) (sym c.deref.ensures.value) ∙ sym c.entry.ensures ∙ c.in-Some-entry.is)).apart (sym e)

pub take_from-requires-clause-rising : goal.take_from-requires-clause-rising
take_from-requires-clause-rising c = rising_of c.requires.mid.0 c.args.self.now c.args.number c.args.place (W.Awaits c.args.chan) c.requires.mid.1

pub rest-requires-clause-there : goal.rest-requires-clause-there
rest-requires-clause-there c = light_of c.requires.mid.0 c.args.self.now c.args.number c.args.place (W.Awaits c.args.chan) c.requires.mid.1

pub rest-requires-clause-within : goal.rest-requires-clause-within
rest-requires-clause-within c = within_of c.requires.mid.0 c.args.self.now c.args.number c.args.place (W.Awaits c.args.chan) c.requires.mid.1

pub returns-in_ok-take_from-in-Some-entry-clause-ok : goal.returns-in_ok-take_from-in-Some-entry-clause-ok
returns-in_ok-take_from-in-Some-entry-clause-ok c = λ p pick after net mid w.
    let by : TakesBy pick (standing (now p c.args.keyboard.now c.args.self.now c.args.number c.args.place after net mid)) c.args.chan after.wait (input_arm c.args.chan) = subst (λ z. TakesBy pick (standing (now p c.args.keyboard.now c.args.self.now c.args.number c.args.place after net mid)) c.args.chan z (input_arm c.args.chan)) (sym w) by_input in
    was_taken p c.args.keyboard.now c.args.self.now c.args.number c.args.place after net mid _ pick c.args.chan c.in-Some-entry.giver (input_arm c.args.chan) by (ap (λ t. entry_in t c.args.chan) (sym c.deref.ensures.value) ∙ sym c.entry.ensures ∙ c.in-Some-entry.is) (λ t m h q. subst (λ a. TookFrom c.args.self.now c.args.number c.in-Some-entry.giver c.args.chan a t m c.take_from.new.self) c.input_arm.ensures (c.in_ok-take_from-in-Some-entry.ensures.ok t m h q))

pub returns-in-None-clause-ok : goal.returns-in-None-clause-ok
returns-in-None-clause-ok c = λ p pick after net mid w.
    let kb = c.args.keyboard.now in
    let there = there_old p kb c.args.self.now c.args.number c.args.place after net mid in
    let tasks = c.rest.ensures.tasks (made_ready after) there in
    await_waits p kb c.args.self.now c.args.number c.args.place after net mid _ pick c.args.chan w (sym c.next_byte.ensures ∙ c.in_default.is) (ap (λ t. entry_in t c.args.chan) (sym c.deref.ensures.value) ∙ sym c.entry.ensures ∙ c.in-None.is) tasks refl refl
    (rests_listening p kb c.args.self.now c.args.number c.args.place after net mid (W.Awaits c.args.chan) at_input w tasks c.rest.ensures.ready c.set_entry.ensures)
    (sized_listening p kb c.args.self.now c.args.number c.args.place after net mid (W.Awaits c.args.chan) tasks c.set_entry.ensures)
