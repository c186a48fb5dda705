use Rattle.std.proofs.Common.{arith}
use Rattle.occ_contracts.proofs.Outcomes.{agree_as_planned, are_bytes}
use Rattle.occ_contracts.proofs.runs.choices_as_planned.Goals as goal

pub returns : goal.returns
returns c =
    let bytes = are_bytes c.args.keyboard.now (λ k. (c.type_inv.keyboard k).fits) in
    agree_as_planned c.args.code _ c.args.keyboard.now _ c.args.choices.now _ c.compiled.ensures bytes (omega arith) c.requires.code c.requires.keyboard c.requires.plan _ _
    c.run_choices.ensures.ok c.run_choices.ensures.refused c.run.ensures.ok c.run.ensures.refused
