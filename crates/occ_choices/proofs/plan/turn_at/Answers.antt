use Rattle.std.proofs.Common.{Some, sym, ap, ◌∙◌, zero-add}
use Rattle.occ_choices.proofs.PlanLemmas.{turns_at, turns_past, turn_number}
use Rattle.occ_choices.proofs.plan.turn_at.Goals as goal

pub returns-then-number-turns : goal.returns-then-number-turns
returns-then-number-turns c = sym (turns_at c.args.number 0 c.args.turns c.if-number-turns.true ∙ ap (λ m. Some (turn_number m)) (zero-add c.args.number))

pub returns-else-number-turns : goal.returns-else-number-turns
returns-else-number-turns c = sym (turns_past c.args.number 0 c.args.turns c.if-number-turns.false)
