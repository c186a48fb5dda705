use Rattle.std.proofs.Common.{length, sym, ap, ◌∙◌}
use Rattle.occ_choices.specs.Plans.{choices_of}
use Rattle.occ_choices.proofs.PlanLemmas.{turns_length}
use Rattle.occ_choices.proofs.plan.Plan.len.Goals as goal

pub returns-in-Turns : goal.returns-in-Turns
returns-in-Turns c = sym (ap (λ p. length (choices_of p)) c.in-Turns.is ∙ turns_length 0 c.in-Turns.turns)
