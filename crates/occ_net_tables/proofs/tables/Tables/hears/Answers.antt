use Rattle.occ_net_tables.proofs.Halves.{deaf_told}
use Rattle.occ_net_tables.proofs.tables.Tables.hears.Goals as goal

pub returns-in-Chooses : goal.returns-in-Chooses
returns-in-Chooses c =
    deaf_told c.in-Chooses.pri c.args.pick c.args.self.now.offering.items c.deref.result.now c.deref-in-Chooses.result.now c.in-Chooses.arms c.as_slice-arms.result.now
    c.choose_arm-with.result c.choose_arm-without.result c.choose_arm-with.ensures.arm c.choose_arm-without.ensures.arm c.as_slice-arms.ensures c.deref.ensures.value c.deref-in-Chooses.ensures.value
    c.is_same_arm.result c.is_same_arm.ensures c.args.wait.now c.in-Chooses.is
