use Rattle.std.proofs.Common.{refl}
use Rattle.occ_choices.specs.Plans.{choices_of}
use Rattle.occ_net_tables.proofs.Rerun.{outcome}
use Rattle.occ_net_tables.proofs.running.run.Goals as goal

pub returns : goal.returns
returns c =
    outcome c.args.code.now c.args.keyboard.now (choices_of c.args.plan.now) c.in_ok-ending.field-0 c.into_trace-trace.result c.in_ok-ending.ensures
    (λ k net h. c.into_trace-trace.ensures c.args.code.now k net h) _ refl refl refl
