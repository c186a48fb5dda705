use Rattle.occ_check_lines.proofs.Literals.{string_is}
use Rattle.occ_check_lines.proofs.literal.string_size.Goals as goal

pub returns-then-size-le2147483647-clause-string : goal.returns-then-size-le2147483647-clause-string
returns-then-size-le2147483647-clause-string c = string_is c.args.bytes.now (λ k. (c.type_inv.bytes k).fits) c.if-size-le2147483647.true
