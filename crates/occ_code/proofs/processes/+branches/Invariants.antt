use Rattle.std.proofs.Common.{◌≤◌, length, drop, map}
use Rattle.std.specs.Arc.{arc_value}
use Rattle.occ_term.specs.Processes.{branches_among, branches_in_arms, branches_in_choices, branches_in_options, branches_in_terms, branches_in_variants}
use Rattle.occ_term.specs.View.{arms_of, branches_of, choices_of, options_of, terms_of, variants_of}
use Rattle.occ_code.specs.CodeOf.{AddsBodies}
use Rattle.occ_code.proofs.processes.+branches.Given as goal

abbrev pub invariant-add_in_terms-loop-count : goal.invariant-add_in_terms-loop-count
invariant-add_in_terms-loop-count l =
    (l.count ≤ length l.parts) × AddsBodies l.quantum (map arc_value l.fn.bodies.items) (branches_in_terms (terms_of (drop l.count l.parts))) (map arc_value l.bodies.items)

abbrev pub decreases-add_in_terms-loop-count : goal.decreases-add_in_terms-loop-count
decreases-add_in_terms-loop-count l = l.count

abbrev pub invariant-add_each-loop-count : goal.invariant-add_each-loop-count
invariant-add_each-loop-count l =
    (l.count ≤ length l.branches) × AddsBodies l.quantum (map arc_value l.fn.bodies.items) (branches_among (branches_of (drop l.count l.branches))) (map arc_value l.bodies.items)

abbrev pub decreases-add_each-loop-count : goal.decreases-add_each-loop-count
decreases-add_each-loop-count l = l.count

abbrev pub invariant-add_in_variants-loop-count : goal.invariant-add_in_variants-loop-count
invariant-add_in_variants-loop-count l =
    (l.count ≤ length l.variants) × AddsBodies l.quantum (map arc_value l.fn.bodies.items) (branches_in_variants (variants_of (drop l.count l.variants))) (map arc_value l.bodies.items)

abbrev pub decreases-add_in_variants-loop-count : goal.decreases-add_in_variants-loop-count
decreases-add_in_variants-loop-count l = l.count

abbrev pub invariant-add_in_choices-loop-count : goal.invariant-add_in_choices-loop-count
invariant-add_in_choices-loop-count l =
    (l.count ≤ length l.choices) × AddsBodies l.quantum (map arc_value l.fn.bodies.items) (branches_in_choices (choices_of (drop l.count l.choices))) (map arc_value l.bodies.items)

abbrev pub decreases-add_in_choices-loop-count : goal.decreases-add_in_choices-loop-count
decreases-add_in_choices-loop-count l = l.count

abbrev pub invariant-add_in_options-loop-count : goal.invariant-add_in_options-loop-count
invariant-add_in_options-loop-count l =
    (l.count ≤ length l.options) × AddsBodies l.quantum (map arc_value l.fn.bodies.items) (branches_in_options (options_of (drop l.count l.options))) (map arc_value l.bodies.items)

abbrev pub decreases-add_in_options-loop-count : goal.decreases-add_in_options-loop-count
decreases-add_in_options-loop-count l = l.count

abbrev pub invariant-add_in_arms-loop-count : goal.invariant-add_in_arms-loop-count
invariant-add_in_arms-loop-count l =
    (l.count ≤ length l.arms) × AddsBodies l.quantum (map arc_value l.fn.bodies.items) (branches_in_arms (arms_of (drop l.count l.arms))) (map arc_value l.bodies.items)

abbrev pub decreases-add_in_arms-loop-count : goal.decreases-add_in_arms-loop-count
decreases-add_in_arms-loop-count l = l.count
