use Rattle.std.proofs.Common.{◌∙◌, refl, subst, sym, ap}
use Rattle.occ_machine.specs.declared.task.Wait.TheVariants as W
use Rattle.occ_net_tables.specs.declared.tables.Tables.{Tables}
use Rattle.occ_net_tables.specs.Keys.{entry_in}
use Rattle.occ_net_tables.specs.Settling.{HandsTo}
use Rattle.occ_net_tables.proofs.Between.{taker_of, was_read, was_given}
use Rattle.occ_net_tables.proofs.Waits.{rising_of}
use Rattle.occ_net_tables.proofs.tables.Tables.offer.Goals as goal

pub returns-in-Ok-clause-ok : goal.returns-in-Ok-clause-ok
returns-in-Ok-clause-ok c = λ p kb after net mid w.
    was_read p kb c.args.self.now c.args.number c.args.place after net mid _ c.args.pick c.args.chan c.args.message c.in-Some.receiver w (sym c.reader.ensures ∙ c.in-Some.is) refl refl c.in-Ok.ensures.pushed mid.sound mid.sized

pub keep_offering-requires-clause-unread : goal.keep_offering-requires-clause-unread
keep_offering-requires-clause-unread c = sym c.reader.ensures ∙ c.in_default.is

pub keep_offering-requires-clause-alone : goal.keep_offering-requires-clause-alone
keep_offering-requires-clause-alone c = ap (λ t. entry_in t c.args.chan) (sym c.deref.ensures.value) ∙ sym c.entry.ensures ∙ c.in_default-entry.is

pub returns-in_default-entry-clause-ok : goal.returns-in_default-entry-clause-ok
returns-in_default-entry-clause-ok c = λ p kb. c.keep_offering.ensures p kb c.args.pick

pub hand_over-requires-clause-takes : goal.hand_over-requires-clause-takes
hand_over-requires-clause-takes c =
    let h = c.requires.mid.1 in
    let x = taker_of c.requires.mid.0 h.keyboard c.args.self.now c.args.number c.args.place h.after h.net h.mid c.args.chan c.args.pick c.in-Some-entry.taker (ap (λ t. entry_in t c.args.chan) (sym c.deref.ensures.value) ∙ sym c.entry.ensures ∙ c.in-Some-entry.is) in
    record { task = x.task; there = x.there; arm = x.arm; takes = x.takes }

pub hand_over-requires-clause-rising : goal.hand_over-requires-clause-rising
hand_over-requires-clause-rising c = rising_of c.requires.mid.0 c.args.self.now c.args.number c.args.place (W.Offers c.args.chan c.args.message) c.requires.mid.1

pub returns-clause-ok : goal.returns-clause-ok
returns-clause-ok c = λ p kb after net mid w.
    let n = c.args.self.now in
    let new = c.hand_over.new.self in
    let x = taker_of p kb n c.args.number c.args.place after net mid c.args.chan c.args.pick c.in-Some-entry.taker (ap (λ t. entry_in t c.args.chan) (sym c.deref.ensures.value) ∙ sym c.entry.ensures ∙ c.in-Some-entry.is) in
    let gave = subst (λ (z : Tables). HandsTo z c.in-Some-entry.taker c.args.chan c.args.pick c.args.message new) (ap (λ trace. record n { trace = trace }) c.in-Ok-push.ensures.pushed) c.hand_over.ensures in
    was_given p kb n c.args.number c.args.place after net mid _ c.args.pick c.args.chan c.in-Some-entry.taker c.args.message w x (gave x.task x.arm x.there x.takes)
