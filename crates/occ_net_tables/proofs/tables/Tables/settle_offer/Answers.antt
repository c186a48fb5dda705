use Rattle.occ_machine.specs.declared.task.Wait.TheVariants as W
use Rattle.occ_net_tables.proofs.Roomy.{has_mid_as, settles_as}
use Rattle.occ_net_tables.proofs.tables.Tables.settle_offer.Goals as goal

pub offer_made-requires-clause-mid : goal.offer_made-requires-clause-mid
offer_made-requires-clause-mid c =
    let p = c.requires.0 in
    (p, has_mid_as c.args.self.now c.make_room.new.self c.make_room.ensures.same p c.args.number c.args.place (W.Offers c.args.chan c.args.message) c.requires.1)

pub returns : goal.returns
returns c = λ p kb.
    settles_as c.args.self.now c.make_room.new.self c.make_room.ensures.same p kb c.args.pick c.args.number c.args.place (W.Offers c.args.chan c.args.message) _ (c.in_ok-offer_made.ensures p kb)
