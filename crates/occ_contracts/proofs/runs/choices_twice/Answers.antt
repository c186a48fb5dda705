use Rattle.std.proofs.Common.{arith, refl}
use Rattle.occ_contracts.proofs.Outcomes.{agree_as_planned, are_bytes}
use Rattle.occ_contracts.proofs.runs.choices_twice.Goals as goal

pub returns : goal.returns
returns c =
    let bytes = are_bytes c.args.keyboard.now (λ k. (c.type_inv.keyboard k).fits) in
    agree_as_planned c.args.code _ c.args.keyboard.now _ c.args.choices.now c.args.choices.now c.compiled.ensures bytes (omega arith) c.requires refl refl _ _
    c.run_choices.ensures.ok c.run_choices.ensures.refused c.run_choices-2.ensures.ok c.run_choices-2.ensures.refused
