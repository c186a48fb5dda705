use Rattle.occ_term.specs.Uses.{uses_of_terms, uses_of_arms, uses_of_variants, uses_of_choices, uses_of_options}
use Rattle.occ_usage.specs.Clashes.{clash_in_terms, clash_in_arms, clash_in_variants, clash_in_choices, clash_in_options}
use Rattle.occ_term.specs.View.{terms_of, arms_of, variants_of, choices_of, options_of}
use Rattle.occ_usage.proofs.Walks.{Each, Rest}
use Rattle.occ_usage.proofs.terms.+walk.Given as goal

abbrev pub invariant-note_terms-loop-part : goal.invariant-note_terms-loop-part
invariant-note_terms-loop-part l =
    Rest (λ xs. uses_of_terms (terms_of xs)) (λ xs clash. clash_in_terms clash (terms_of xs)) l.parts l.part-index l.initial.noted.uses l.noted.uses l.initial.found l.found

abbrev pub invariant-note_arms-loop-arm : goal.invariant-note_arms-loop-arm
invariant-note_arms-loop-arm l =
    Rest (λ xs. uses_of_arms (arms_of xs)) (λ xs clash. clash_in_arms clash (arms_of xs)) l.arms l.arm-index l.initial.noted.uses l.noted.uses l.initial.found l.found

abbrev pub invariant-note_variants-loop-variant : goal.invariant-note_variants-loop-variant
invariant-note_variants-loop-variant l =
    Rest (λ xs. uses_of_variants (variants_of xs)) (λ xs clash. clash_in_variants clash (variants_of xs)) l.variants l.variant-index l.initial.noted.uses l.noted.uses l.initial.found l.found

abbrev pub invariant-note_choices-loop-choice : goal.invariant-note_choices-loop-choice
invariant-note_choices-loop-choice l =
    Rest (λ xs. uses_of_choices (choices_of xs)) (λ xs clash. clash_in_choices clash (choices_of xs)) l.choices l.choice-index l.initial.noted.uses l.noted.uses l.initial.found l.found

abbrev pub invariant-note_options-loop-option : goal.invariant-note_options-loop-option
invariant-note_options-loop-option l =
    Rest (λ xs. uses_of_options (options_of xs)) (λ xs clash. clash_in_options clash (options_of xs)) l.options l.option-index l.initial.noted.uses l.noted.uses l.initial.found l.found

abbrev pub invariant-uses_of_each-loop-branch : goal.invariant-uses_of_each-loop-branch
invariant-uses_of_each-loop-branch l = Each l.branches l.branch-index l.lists.items l.initial.noted.uses l.noted.uses l.initial.found l.found
