use Rattle.occ_term.specs.Uses.{uses_of_declarations}
use Rattle.occ_term.specs.View.{declarations_of}
use Rattle.occ_usage.proofs.UseSets.{Left}
use Rattle.occ_usage.proofs.expressions.note_declarations.Given as goal

abbrev pub invariant-loop-declaration : goal.invariant-loop-declaration
invariant-loop-declaration l = Left (λ xs. uses_of_declarations (declarations_of xs)) l.declarations l.declaration-index l.initial.noted.uses l.noted.uses
