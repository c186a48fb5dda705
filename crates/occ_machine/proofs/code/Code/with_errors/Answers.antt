use Rattle.occ_machine.proofs.code.Code.with_errors.Goals as goal

pub invariant_of-result : goal.invariant_of-result
invariant_of-result c =
    let i = c.self.invariant in
    let same = i.compiled in
    record { source = i.source; well_formed = i.well_formed; lawful = i.lawful; quantum = i.quantum; compiled = record { channels = same.channels; bodies = same.bodies; quanta = same.quanta; small = same.small } }
