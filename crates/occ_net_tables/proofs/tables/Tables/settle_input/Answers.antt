use Rattle.occ_machine.specs.declared.task.Wait.TheVariants as W
use Rattle.occ_net_tables.proofs.Roomy.{has_mid_as, settles_as}
use Rattle.occ_net_tables.proofs.tables.Tables.settle_input.Goals as goal

pub await_on-requires-clause-mid : goal.await_on-requires-clause-mid
await_on-requires-clause-mid c = let p = c.requires.0 in (p, has_mid_as c.args.self.now c.make_room.new.self c.make_room.ensures.same p c.args.number c.args.place (W.Awaits c.args.chan) c.requires.1)

pub returns : goal.returns
returns c = λ p pick. settles_as c.args.self.now c.make_room.new.self c.make_room.ensures.same p c.args.keyboard.now pick c.args.number c.args.place (W.Awaits c.args.chan) _ (c.in_ok-await_on.ensures.ok p pick)
