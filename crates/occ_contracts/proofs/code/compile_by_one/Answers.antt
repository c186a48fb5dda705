use Rattle.std.proofs.Common.{refl, lit≤, lit<, IfOk, Ok, Err, Result}
use Rattle.occ_code.specs.CodeOf.{IsQuantum}
use Rattle.occ_contracts.proofs.Codes.{agree_on_code}
use Rattle.occ_contracts.proofs.code.compile_by_one.Goals as goal

one_is : IsQuantum 1
one_is = (lit< tt, lit≤ tt)

whatever : {X E : Type 0} (r : Result X E) → IfOk r (λ _. IsQuantum 1)
whatever (Ok _) = one_is
whatever (Err _) = tt

pub returns : goal.returns
returns c =
    let one = c.compile.ensures in
    let other = c.compile_for.ensures in
    agree_on_code c.args.checked.now c.args.checked.now refl 1 _ _ one.compiled one.halts one.refused other.compiled other.halts other.refused other.quantum (whatever c.compile.result)
