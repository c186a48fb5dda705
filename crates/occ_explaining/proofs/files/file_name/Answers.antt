use Rattle.std.proofs.Common.{◌-◌, arith}
use Rattle.occ_explaining.proofs.Named.{numbered}
use Rattle.occ_explaining.proofs.files.file_name.Goals as goal

pub returns-in-Some : goal.returns-in-Some
returns-in-Some c =
    let found = c.in-Some.ensures.lookup in
    numbered c.args.files.now.first.now c.args.files.now.more.now c.args.number (c.args.number - 1) c.in-Some.name.now (omega (arith, c.if-number-eq0.false)) found.3.0 found.1
