use Rattle.std.proofs.Common.{◌∙◌, refl, subst}
use Rattle.occ_net_tables.specs.Room.{HasRoom}
use Rattle.occ_net_tables.proofs.Between.{goes_on}
use Rattle.occ_net_tables.proofs.Roomy.{has_mid_as, settles_as}
use Rattle.occ_net_tables.proofs.tables.Tables.settle.Goals as goal

pub returns-then-is_ready-clause-ok : goal.returns-then-is_ready-clause-ok
returns-then-is_ready-clause-ok c = λ after net mid w. goes_on c.args.code.now c.args.keyboard.now c.args.self.now c.args.number c.args.place after net mid _ c.args.pick (w ∙ c.is_ready.ensures.0 c.if-is_ready.true) refl refl refl mid.sound mid.sized

pub meet-requires-clause-mid : goal.meet-requires-clause-mid
meet-requires-clause-mid c = has_mid_as c.args.self.now c.make_room.new.self c.make_room.ensures.same c.args.code.now c.args.number c.args.place c.args.wait c.requires

pub returns-clause-ok : goal.returns-clause-ok
returns-clause-ok c = settles_as c.args.self.now c.make_room.new.self c.make_room.ensures.same c.args.code.now c.args.keyboard.now c.args.pick c.args.number c.args.place c.args.wait _ c.in_ok-meet.ensures.ok

pub meet-requires-clause-room : goal.meet-requires-clause-room
meet-requires-clause-room c = subst (HasRoom c.make_room.new.self) c.more_ready.ensures c.in-Ok.ensures.room
