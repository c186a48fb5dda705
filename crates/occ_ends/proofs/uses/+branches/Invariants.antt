use Rattle.std.proofs.Common.{◌≤◌, length, drop}
use Rattle.occ_term.specs.Processes.{branches_among, branches_in_arms, branches_in_choices, branches_in_options, branches_in_terms, branches_in_variants}
use Rattle.occ_term.specs.View.{arms_of, branches_of, choices_of, options_of, terms_of, variants_of}
use Rattle.occ_ends.specs.Ends.{ListsUses}
use Rattle.occ_ends.proofs.uses.+branches.Given as goal

abbrev pub invariant-add_in_terms-loop-count : goal.invariant-add_in_terms-loop-count
invariant-add_in_terms-loop-count l =
    (l.count ≤ length l.parts) × ListsUses l.fn.list.items (branches_in_terms (terms_of (drop l.count l.parts))) l.list.items

abbrev pub decreases-add_in_terms-loop-count : goal.decreases-add_in_terms-loop-count
decreases-add_in_terms-loop-count l = l.count

abbrev pub invariant-add_each-loop-count : goal.invariant-add_each-loop-count
invariant-add_each-loop-count l =
    (l.count ≤ length l.branches) × ListsUses l.fn.list.items (branches_among (branches_of (drop l.count l.branches))) l.list.items

abbrev pub decreases-add_each-loop-count : goal.decreases-add_each-loop-count
decreases-add_each-loop-count l = l.count

abbrev pub invariant-add_in_variants-loop-count : goal.invariant-add_in_variants-loop-count
invariant-add_in_variants-loop-count l =
    (l.count ≤ length l.variants) × ListsUses l.fn.list.items (branches_in_variants (variants_of (drop l.count l.variants))) l.list.items

abbrev pub decreases-add_in_variants-loop-count : goal.decreases-add_in_variants-loop-count
decreases-add_in_variants-loop-count l = l.count

abbrev pub invariant-add_in_choices-loop-count : goal.invariant-add_in_choices-loop-count
invariant-add_in_choices-loop-count l =
    (l.count ≤ length l.choices) × ListsUses l.fn.list.items (branches_in_choices (choices_of (drop l.count l.choices))) l.list.items

abbrev pub decreases-add_in_choices-loop-count : goal.decreases-add_in_choices-loop-count
decreases-add_in_choices-loop-count l = l.count

abbrev pub invariant-add_in_options-loop-count : goal.invariant-add_in_options-loop-count
invariant-add_in_options-loop-count l =
    (l.count ≤ length l.options) × ListsUses l.fn.list.items (branches_in_options (options_of (drop l.count l.options))) l.list.items

abbrev pub decreases-add_in_options-loop-count : goal.decreases-add_in_options-loop-count
decreases-add_in_options-loop-count l = l.count

abbrev pub invariant-add_in_arms-loop-count : goal.invariant-add_in_arms-loop-count
invariant-add_in_arms-loop-count l =
    (l.count ≤ length l.arms) × ListsUses l.fn.list.items (branches_in_arms (arms_of (drop l.count l.arms))) l.list.items

abbrev pub decreases-add_in_arms-loop-count : goal.decreases-add_in_arms-loop-count
decreases-add_in_arms-loop-count l = l.count
