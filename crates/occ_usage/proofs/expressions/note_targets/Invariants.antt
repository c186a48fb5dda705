use Rattle.occ_term.specs.Uses.{uses_of_targets}
use Rattle.occ_term.specs.View.{targets_of}
use Rattle.occ_usage.proofs.UseSets.{Left}
use Rattle.occ_usage.proofs.expressions.note_targets.Given as goal

abbrev pub invariant-loop-target : goal.invariant-loop-target
invariant-loop-target l = Left (λ xs. uses_of_targets (targets_of xs)) l.targets l.target-index l.initial.noted.uses l.noted.uses
