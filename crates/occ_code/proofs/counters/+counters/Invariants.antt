use Rattle.std.specs.Prelude.{min}
use Rattle.std.proofs.Common.{◌≡◌, ◌≤◌, ◌-◌, ◌^◌, length, drop}
use Rattle.occ_term.specs.View.{arms_of, choices_of, options_of, terms_of, variants_of}
use Rattle.occ_code.specs.Emitted.{counters_of_arms, counters_of_choices, counters_of_options, counters_of_else, counters_of_terms, counters_of_variants}
use Rattle.occ_code.proofs.counters.+counters.Given as goal

abbrev pub invariant-counters_in_terms-loop-count : goal.invariant-counters_in_terms-loop-count
invariant-counters_in_terms-loop-count l = (l.count ≤ length l.parts) × (l.most ≡ min (counters_of_terms (terms_of (drop l.count l.parts))) (2 ^ 64 - 1))

abbrev pub decreases-counters_in_terms-loop-count : goal.decreases-counters_in_terms-loop-count
decreases-counters_in_terms-loop-count l = l.count

abbrev pub invariant-counters_in_arms-loop-count : goal.invariant-counters_in_arms-loop-count
invariant-counters_in_arms-loop-count l = (l.count ≤ length l.arms) × (l.most ≡ min (counters_of_arms (arms_of (drop l.count l.arms))) (2 ^ 64 - 1))

abbrev pub decreases-counters_in_arms-loop-count : goal.decreases-counters_in_arms-loop-count
decreases-counters_in_arms-loop-count l = l.count

abbrev pub invariant-counters_in_variants-loop-count : goal.invariant-counters_in_variants-loop-count
invariant-counters_in_variants-loop-count l = (l.count ≤ length l.variants) × (l.most ≡ min (counters_of_variants (variants_of (drop l.count l.variants))) (2 ^ 64 - 1))

abbrev pub decreases-counters_in_variants-loop-count : goal.decreases-counters_in_variants-loop-count
decreases-counters_in_variants-loop-count l = l.count

abbrev pub invariant-counters_in_choices-loop-count : goal.invariant-counters_in_choices-loop-count
invariant-counters_in_choices-loop-count l = (l.count ≤ length l.choices) × (l.most ≡ min (counters_of_choices (choices_of (drop l.count l.choices))) (2 ^ 64 - 1))

abbrev pub decreases-counters_in_choices-loop-count : goal.decreases-counters_in_choices-loop-count
decreases-counters_in_choices-loop-count l = l.count

abbrev pub invariant-counters_in_options-loop-count : goal.invariant-counters_in_options-loop-count
invariant-counters_in_options-loop-count l = (l.count ≤ length l.options) × (l.most ≡ min (counters_of_options (options_of (drop l.count l.options))) (2 ^ 64 - 1))

abbrev pub decreases-counters_in_options-loop-count : goal.decreases-counters_in_options-loop-count
decreases-counters_in_options-loop-count l = l.count

abbrev pub invariant-counters_in_else-loop-option : goal.invariant-counters_in_else-loop-option
invariant-counters_in_else-loop-option l = counters_of_else (options_of (drop l.option-index l.options)) ≡ counters_of_else (options_of l.options)
