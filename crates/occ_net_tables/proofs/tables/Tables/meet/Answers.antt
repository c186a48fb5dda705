use Rattle.std.proofs.Common.{◌∙◌, refl}
use Rattle.occ_net_tables.proofs.Between.{goes_on}
use Rattle.occ_net_tables.proofs.tables.Tables.meet.Goals as goal

pub returns-in-Ready-clause-ok : goal.returns-in-Ready-clause-ok
returns-in-Ready-clause-ok c = λ after net mid w. goes_on c.args.code.now c.args.keyboard.now c.args.self.now c.args.number c.args.place after net mid _ c.args.pick (w ∙ c.in-Ready.is) refl refl refl mid.sound mid.sized
