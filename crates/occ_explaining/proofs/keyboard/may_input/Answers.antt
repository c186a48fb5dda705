use Rattle.std.proofs.Common.{◌∙◌, sym}
use Rattle.occ_explaining.specs.Typing.{by_refusal}
use Rattle.occ_explaining.proofs.keyboard.may_input.Goals as goal

pub returns-then-status_of_fault-eq1 : goal.returns-then-status_of_fault-eq1
returns-then-status_of_fault-eq1 c = λ none. by_refusal c.in-Err.fault c.in-Err.ensures.refused (sym c.status_of_fault.ensures ∙ c.if-status_of_fault-eq1.true)
