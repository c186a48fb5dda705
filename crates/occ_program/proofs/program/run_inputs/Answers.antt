use Rattle.std.proofs.Common.{subst}
use Rattle.occ_program.specs.Coming.{IsStatusOf}
use Rattle.occ_program.proofs.program.run_inputs.Goals as goal

pub returns-clause-came : goal.returns-clause-came
returns-clause-came g c =
    let words = c.args.words.now in
    let inputs = c.take_seed.new.inputs in
    subst (λ v. IsStatusOf words c.args.inputs.now.source.items v.items c.in_ok-status.status) c.in_ok-seed.ensures.keyboard
    (subst (λ v. IsStatusOf words v.items inputs.keyboard.items c.in_ok-status.status) c.in_ok-seed.ensures.source c.in_ok-status.ensures.came)
