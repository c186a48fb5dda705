use Rattle.std.proofs.Common.{◌≡◌, ◌∷◌, ◌+◌, arith, length, pos}
use Rattle.occ_term.specs.View.{replicator_of}
use Rattle.occ_machine.specs.declared.instr.Instr.TheVariants.{Push}
use Rattle.occ_code.specs.Expressions.{counting_code}
use Rattle.occ_code.proofs.Emitting.{emits_length}
use Rattle.occ_code.proofs.EmittingArms.{value_begins}
use Rattle.occ_code.proofs.arms.emit_each_value.Goals as goal

pub returns : goal.returns
returns c = λ before body long behind_it.
    let one : length c.put.new.code.items ≡ length c.args.code.now.items + 1 = omega (arith, emits_length c.in_ok-put.ensures) in
    value_begins (counting_code (replicator_of c.args.over.now)) body c.args.over.now.index c.since.result c.emitted-before.result behind_it c.in_ok-put.ensures (λ x. c.in_ok-emit_next.ensures before (Push (pos 0) ∷ body) long x) one c.emitted-before.ensures
    c.since.ensures c.in_ok-put-2.ensures
