use Rattle.std.proofs.Common.{refl}
use Rattle.occ_machine.specs.declared.task.Wait.TheVariants as W
use Rattle.occ_net_replay.specs.Replay.{made_ready}
use Rattle.occ_net_tables.proofs.Between.{there_old, offer_waits}
use Rattle.occ_net_tables.proofs.Waits.{within_of, light_of, rests_at_offer, sized_at_offer}
use Rattle.occ_net_tables.proofs.tables.Tables.keep_offering.Goals as goal

pub rest-requires-clause-there : goal.rest-requires-clause-there
rest-requires-clause-there c = light_of c.requires.mid.0 c.args.self.now c.args.number c.args.place (W.Offers c.args.chan c.args.message) c.requires.mid.1

pub rest-requires-clause-within : goal.rest-requires-clause-within
rest-requires-clause-within c = within_of c.requires.mid.0 c.args.self.now c.args.number c.args.place (W.Offers c.args.chan c.args.message) c.requires.mid.1

pub returns : goal.returns
returns c = λ p kb pick after net mid w.
    let there = there_old p kb c.args.self.now c.args.number c.args.place after net mid in
    let tasks = c.rest.ensures.tasks (made_ready after) there in
    offer_waits p kb c.args.self.now c.args.number c.args.place after net mid _ pick c.args.chan c.args.message w c.requires.unread c.requires.alone tasks refl refl
    (rests_at_offer p kb c.args.self.now c.args.number c.args.place after net mid c.args.chan c.args.message w tasks c.rest.ensures.ready c.set_entry.ensures)
    (sized_at_offer p kb c.args.self.now c.args.number c.args.place after net mid c.args.chan c.args.message tasks c.set_entry.ensures)
