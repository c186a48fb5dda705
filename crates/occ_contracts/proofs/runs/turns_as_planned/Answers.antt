use Rattle.std.proofs.Common.{arith, refl, length, ◌<◌, ◌^◌}
use Rattle.occ_choices.specs.Plans.{turns_from}
use Rattle.occ_contracts.proofs.Outcomes.{agree_as_planned, are_bytes, turns_length}
use Rattle.occ_contracts.proofs.runs.turns_as_planned.Goals as goal

pub returns : goal.returns
returns c =
    let bytes = are_bytes c.args.keyboard.now (λ k. (c.type_inv.keyboard k).fits) in
    let few : length (turns_from 0 c.args.limit) < 2 ^ 64 = (let q = turns_length 0 c.args.limit in omega (arith, q)) in
    agree_as_planned c.args.code _ c.args.keyboard.now _ (turns_from 0 c.args.limit) (turns_from 0 c.args.limit) c.compiled.ensures bytes few c.requires.code c.requires.keyboard refl _ _
    c.run_turns.ensures.ok c.run_turns.ensures.refused c.run.ensures.ok c.run.ensures.refused
