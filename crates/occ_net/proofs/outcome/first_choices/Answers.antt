use Rattle.std.proofs.Common.{◌∙◌, ◌∷◌, ◌++◌, [], ap, sym}
use Rattle.occ_choices.specs.Plans.{choices_of}
use Rattle.occ_net_tables.proofs.Rerun.{taken_more}
use Rattle.occ_net.proofs.outcome.first_choices.Goals as goal

pub loop-number-preserved : goal.loop-number-preserved
loop-number-preserved c =
    c.in_ok-push.ensures.items ∙ ap (λ l. l ++ c.in-Some.choice ∷ []) c.loop-number.invariant
    ∙ taken_more (choices_of c.args.plan.now) c.loop-number.number c.in-Some.choice (sym c.at.ensures ∙ c.in-Some.is)
