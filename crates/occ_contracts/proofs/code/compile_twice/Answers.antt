use Rattle.occ_contracts.proofs.Codes.{agree_on_code}
use Rattle.occ_contracts.proofs.code.compile_twice.Goals as goal

pub returns : goal.returns
returns c =
    let one = c.compile_for.ensures in
    let other = c.compile_for-2.ensures in
    agree_on_code c.args.one.now c.args.other.now c.requires c.args.quantum _ _ one.compiled one.halts one.refused other.compiled other.halts other.refused other.quantum one.quantum
