use Rattle.std.proofs.Common.{rules, ◌≡◌, ◌∷◌, [], ◌++◌, ◌-◌, ◌<◌, drop, length, sym, ap, ◌∙◌, arith}
use Rattle.occ_term.specs.Processes.{branches_among, branches_in, branches_in_arms, branches_in_choices, branches_in_options, branches_in_reception, branches_in_terms, branches_in_variants, numbered}
use Rattle.occ_term.specs.View.{arm_of, arms_of, branch_of, branches_of, choice_of, choices_of, option_of, reception_of, term_of, variant_of, variants_of}
use Rattle.occ_term.specs.declared.term.Term.{the_lemmas}
use Rattle.occ_ends.proofs.Listing.{branches_next, lists_as, lists_none, lists_then, terms_next, variants_next}
use Rattle.occ_ends.proofs.uses.+branches.Goals as goal

-- ---- terms without branches

pub add_branches-returns-in-Assign : goal.add_branches-returns-in-Assign
add_branches-returns-in-Assign t c =
    let seen : [] ≡ branches_in (term_of c.args.term.now) = search (rules, the_lemmas) in
    lists_as (lists_none _) seen

pub add_branches-returns-in-Input : goal.add_branches-returns-in-Input
add_branches-returns-in-Input t c =
    let seen : [] ≡ branches_in (term_of c.args.term.now) = search (rules, the_lemmas) in
    lists_as (lists_none _) seen

pub add_branches-returns-in-Output : goal.add_branches-returns-in-Output
add_branches-returns-in-Output t c =
    let seen : [] ≡ branches_in (term_of c.args.term.now) = search (rules, the_lemmas) in
    lists_as (lists_none _) seen

pub add_branches-returns-in-Clear : goal.add_branches-returns-in-Clear
add_branches-returns-in-Clear t c =
    let seen : [] ≡ branches_in (term_of c.args.term.now) = search (rules, the_lemmas) in
    lists_as (lists_none _) seen

pub add_branches-returns-in-Local : goal.add_branches-returns-in-Local
add_branches-returns-in-Local t c =
    let seen : [] ≡ branches_in (term_of c.args.term.now) = search (rules, the_lemmas) in
    lists_as (lists_none _) seen

-- ---- lists

pub add_in_terms-loop-count-preserved : goal.add_in_terms-loop-count-preserved
add_in_terms-loop-count-preserved t c =
    let (within, others) = c.loop-count.invariant in
    let some : 0 < c.loop-count.count = c.loop-count-test.true in
    let lt : c.loop-count.count - 1 < length c.args.parts.now = omega (arith, some, within) in
    let left = terms_next c.args.parts.now (c.loop-count.count - 1) c.loop-count.count c.index-parts-count.result (omega (arith, some)) lt c.index-parts-count.is in
    (omega (arith, within), lists_as (lists_then others c.in_ok-add_branches.ensures) (sym (ap branches_in_terms left)))

pub add_each-loop-count-preserved : goal.add_each-loop-count-preserved
add_each-loop-count-preserved t c =
    let (within, others) = c.loop-count.invariant in
    let some : 0 < c.loop-count.count = c.loop-count-test.true in
    let lt : c.loop-count.count - 1 < length c.args.branches.now = omega (arith, some, within) in
    let left = branches_next c.args.branches.now (c.loop-count.count - 1) c.loop-count.count c.index-branches-count.result (omega (arith, some)) lt c.index-branches-count.is in
    let seen : numbered c.index-branches-count.result.number (term_of c.index-branches-count.result.body) ∷ (branches_in (term_of c.index-branches-count.result.body) ++ branches_among (branches_of (drop c.loop-count.count c.args.branches.now)))
    ≡ branches_among (branch_of c.index-branches-count.result (branches_of (drop c.loop-count.count c.args.branches.now))) = search (rules, the_lemmas) in
    (omega (arith, within), lists_as (lists_then (lists_then others c.in_ok-add_branches.ensures) (c.in_ok-add_process.ensures)) (seen ∙ sym (ap branches_among left)))

pub add_in_variants-loop-count-preserved : goal.add_in_variants-loop-count-preserved
add_in_variants-loop-count-preserved t c =
    let (within, others) = c.loop-count.invariant in
    let some : 0 < c.loop-count.count = c.loop-count-test.true in
    let lt : c.loop-count.count - 1 < length c.args.variants.now = omega (arith, some, within) in
    let left = variants_next c.args.variants.now (c.loop-count.count - 1) c.loop-count.count c.index-variants-count.result (omega (arith, some)) lt c.index-variants-count.is in
    let seen : branches_in (term_of c.index-variants-count.result.body) ++ branches_in_variants (variants_of (drop c.loop-count.count c.args.variants.now))
    ≡ branches_in_variants (variant_of c.index-variants-count.result (variants_of (drop c.loop-count.count c.args.variants.now))) = search (rules, the_lemmas) in
    (omega (arith, within), lists_as (lists_then others c.in_ok-add_branches.ensures) (seen ∙ sym (ap branches_in_variants left)))

-- ---- choices, options and arms

pub add_in_choice-returns-in_ok-add_branches-in-When : goal.add_in_choice-returns-in_ok-add_branches-in-When
add_in_choice-returns-in_ok-add_branches-in-When t c = λ others before h.
    let seen : branches_in (term_of c.in-When.body) ++ branches_in_choices others ≡ branches_in_choices (choice_of c.args.choice.now others) = search (rules, the_lemmas) in
    lists_as (lists_then h c.in_ok-add_branches-in-When.ensures) seen

pub add_in_choice-returns-in_ok-add_in_choices-in-DeclaredChoices : goal.add_in_choice-returns-in_ok-add_in_choices-in-DeclaredChoices
add_in_choice-returns-in_ok-add_in_choices-in-DeclaredChoices t c = λ others before h.
    let seen : branches_in_choices (choices_of c.as_slice.result.now) ++ branches_in_choices others ≡ branches_in_choices (choice_of c.args.choice.now others) = search (rules, the_lemmas) in
    lists_as (lists_then h c.in_ok-add_in_choices-in-DeclaredChoices.ensures) seen

pub add_in_choice-returns-in_ok-add_in_choices-in-EachChoice : goal.add_in_choice-returns-in_ok-add_in_choices-in-EachChoice
add_in_choice-returns-in_ok-add_in_choices-in-EachChoice t c = λ others before h.
    let seen : branches_in_choices (choices_of c.as_slice-in-EachChoice.result.now) ++ branches_in_choices others ≡ branches_in_choices (choice_of c.args.choice.now others) = search (rules, the_lemmas) in
    lists_as (lists_then h c.in_ok-add_in_choices-in-EachChoice.ensures) seen

pub add_in_option-returns-in_ok-add_branches-in-Among : goal.add_in_option-returns-in_ok-add_branches-in-Among
add_in_option-returns-in_ok-add_branches-in-Among t c = λ others before h.
    let seen : branches_in (term_of c.in-Among.body) ++ branches_in_options others ≡ branches_in_options (option_of c.args.option.now others) = search (rules, the_lemmas) in
    lists_as (lists_then h c.in_ok-add_branches-in-Among.ensures) seen

pub add_in_option-returns-in_ok-add_branches-in-Otherwise : goal.add_in_option-returns-in_ok-add_branches-in-Otherwise
add_in_option-returns-in_ok-add_branches-in-Otherwise t c = λ others before h.
    let seen : branches_in (term_of c.in-Otherwise.body) ++ branches_in_options others ≡ branches_in_options (option_of c.args.option.now others) = search (rules, the_lemmas) in
    lists_as (lists_then h c.in_ok-add_branches-in-Otherwise.ensures) seen

pub add_in_arm-returns-in_ok-add_branches-in-SkipArm : goal.add_in_arm-returns-in_ok-add_branches-in-SkipArm
add_in_arm-returns-in_ok-add_branches-in-SkipArm t c = λ others before h.
    let seen : branches_in (term_of c.in-SkipArm.body) ++ branches_in_arms others ≡ branches_in_arms (arm_of c.args.arm.now others) = search (rules, the_lemmas) in
    lists_as (lists_then h c.in_ok-add_branches-in-SkipArm.ensures) seen

pub add_in_arm-returns-in_ok-add_in_reception-in-InputArm : goal.add_in_arm-returns-in_ok-add_in_reception-in-InputArm
add_in_arm-returns-in_ok-add_in_reception-in-InputArm t c = λ others before h.
    let seen : branches_in_reception (reception_of c.in-InputArm.reception) ++ branches_in_arms others ≡ branches_in_arms (arm_of c.args.arm.now others) = search (rules, the_lemmas) in
    lists_as (lists_then h c.in_ok-add_in_reception-in-InputArm.ensures) seen

pub add_in_arm-returns-in_ok-add_in_arms-in-DeclaredArms : goal.add_in_arm-returns-in_ok-add_in_arms-in-DeclaredArms
add_in_arm-returns-in_ok-add_in_arms-in-DeclaredArms t c = λ others before h.
    let seen : branches_in_arms (arms_of c.as_slice.result.now) ++ branches_in_arms others ≡ branches_in_arms (arm_of c.args.arm.now others) = search (rules, the_lemmas) in
    lists_as (lists_then h c.in_ok-add_in_arms-in-DeclaredArms.ensures) seen

pub add_in_arm-returns-in_ok-add_in_arms-in-EachArm : goal.add_in_arm-returns-in_ok-add_in_arms-in-EachArm
add_in_arm-returns-in_ok-add_in_arms-in-EachArm t c = λ others before h.
    let seen : branches_in_arms (arms_of c.as_slice-in-EachArm.result.now) ++ branches_in_arms others ≡ branches_in_arms (arm_of c.args.arm.now others) = search (rules, the_lemmas) in
    lists_as (lists_then h c.in_ok-add_in_arms-in-EachArm.ensures) seen
