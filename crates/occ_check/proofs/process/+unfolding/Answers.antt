use Rattle.std.proofs.lemmas.Int.{to_z-of_z}
use Rattle.std.proofs.lemmas.List.{map-append}
use Rattle.std.proofs.Common.{rules, arith, w64, to_z, of_z, SFits, ◌-◌, ℤ, pos, ◌+ℤ◌, ◌≤ℤ◌, ◌∷◌, ◌++◌, drop, ◌≡◌, ◌<◌, ◌≤◌, ◌+◌, ◌*◌, ◌∙◌, ℕ, List, Some, [], ap, map, refl, reverse, subst, sym}
use Rattle.occ_tree_grammar.specs.Processes.Trees.{nodes}
use Rattle.occ_tree_grammar.specs.Processes.Views.{arm_of, choice_of, process_of, selection_of, variant_of}
use Rattle.occ_term.specs.View.{arms_of, branch_of, branches_of, choices_of, declarations_of, option_of, options_of, term_of, variant_of as term_variant_of, variants_of}
use Rattle.occ_check_meaning.specs.Actions.{headed, new_tag, none_chosen}
use Rattle.occ_tree_grammar.specs.Lines.Views as lines
use Rattle.occ_check_lines.specs.Tags.{listed_in}
use Rattle.occ_check.proofs.VariantLists.{no_more_variants, no_tag, tags_kept, variant_done, variant_refused, variants_grown, variants_none, variants_step}
use Rattle.occ_check_lines.specs.Action.{chosen_of}
use Rattle.occ_check.proofs.Gathering.{gathered_first, gathered_last, gathered_next, gathered_refused, part_within}
use Rattle.occ_check.proofs.ChoiceLists.{choice_in, choices_grown, choices_none, choices_step, no_more_choices}
use Rattle.occ_check.proofs.ArmLists.{arm_in, arms_grown, arms_none, arms_step, no_more_arms}
use Rattle.occ_check.proofs.OptionLists.{no_more_options, option_done, option_refused, options_grown, options_none, options_step}
use Rattle.occ_tree_grammar.specs.Many.{◌>>=◌}
use Rattle.occ_term.specs.Terms as T
use Rattle.occ_term.specs.Terms.{no_arms, no_choices, no_options, no_terms, no_variants}
use Rattle.occ_term.specs.declared.term.Term.{the_lemmas}
use Rattle.occ_check.proofs.PartByPart.{before, listed_refused, listed_next, listed_last}
use Rattle.occ_term.specs.declared.term.Branch.{the_lemmas as branch_lemmas}
use Rattle.occ_check_meaning.specs.Numbers.{more_processes}
use Rattle.occ_check.proofs.Beside.{all_branches, branch_none, branch_one, branch_step, branches_in, no_body, no_number, one_branch, put_branch}
use Rattle.occ_check.proofs.InTurn.{all_terms, in_turn, in_turn_none, in_turn_one, in_turn_step, item_within, put_term}
use Rattle.occ_check_meaning.specs.Recursion.{all_arms, all_beside, all_choices, all_in_turn, all_options, all_variants, option_unfolded, unfolded, variant_unfolded}
use Rattle.occ_check_meaning.specs.Meant.{meant}
use Rattle.occ_check_lines.specs.View.{Refuses, numbers_of, scope_in}
use Rattle.occ_check.specs.Progress.{counted, meant_at, weight_at}
use Rattle.occ_check.specs.Weights.{node_size, nodes_size, weight}
use Rattle.occ_check_lines.proofs.Refusals.{refused_with}
use Rattle.occ_check_meaning.specs.Performing.{copied}
use Rattle.occ_check.specs.Opened.{copy_for, IsStepReady, left_weight, put, statement_left, step_left, step_weight}
use Rattle.occ_check.specs.Copies.{numbered_copy, copy_left}
use Rattle.occ_check.proofs.CopyLists.{Copied, copied_first, copied_last, copied_next, copied_refused}
use Rattle.occ_check.proofs.OpenedParts.{blocks_kept, put_done, put_refused}
use Rattle.occ_check.specs.Arms.{arm_depth, arm_left, arm_weight, arm_with, arms_within, variants_within}
use Rattle.occ_check.specs.Choices.{choice_depth, choice_left, choice_weight, choice_with, choices_within}
use Rattle.occ_check.specs.Options.{option_left, option_with}
use Rattle.occ_check.specs.Variants.{variant_left, variant_with}
use Rattle.occ_check.specs.declared.arms.OpenedArm.TheVariants as arms
use Rattle.occ_check.specs.declared.choices.OpenedChoice.TheVariants as choices
use Rattle.occ_check.proofs.process.+unfolding.Goals as goal

pub process_unfolded-performed-requires : goal.process_unfolded-performed-requires
process_unfolded-performed-requires t c =
    let u = c.process_opened.new.unfolder in
    let before = c.calls.invariant.2 in
    let less = c.in_ok-step.ensures.weight in
    let same : step_weight u c.in_ok-step.step ≡ left_weight u c.in-Behind.opened = ap (step_weight u) c.in-Behind.is in
    (subst (λ k. 4 * left_weight u c.in-Behind.opened + 2 < k) c.decreases (omega (arith, before, less, same)), subst IsStepReady c.in-Behind.is c.in_ok-step.ensures.ready)

pub process_unfolded-returns-in_err-term-in-Behind-clause-term : goal.process_unfolded-returns-in_err-term-in-Behind-clause-term
process_unfolded-returns-in_err-term-in-Behind-clause-term t c =
    let u = c.process_opened.new.unfolder in
    let whole = unfolded (process_of c.args.process.now) (meant_at c.args.unfolder.now c.args.here.at) c.args.here.depth (counted c.args.unfolder.now) in
    let opens : whole ≡ put (headed (declarations_of c.in-Behind.heads)) (statement_left u c.in-Behind.opened) = c.calls.invariant.0 ∙ c.in_ok-step.ensures.step ∙ ap (step_left u) c.in-Behind.is in
    let refused : Refuses c.in_err-term-in-Behind.field-0.0 whole = put_refused (headed (declarations_of c.in-Behind.heads)) (statement_left u c.in-Behind.opened) whole opens _ c.in_err-term-in-Behind.ensures.term in
    search rules

-- ---- what is left of a statement

-- ---- processes one after the other

pub in_turn-process_unfolded-requires : goal.in_turn-process_unfolded-requires
in_turn-process_unfolded-requires t c =
    let less = item_within c.args.processes.now c.loop-process.process-index c.process-item.result c.loop-process-test.true c.process-item.is in
    let same : weight_at c.loop-process.unfolder c.args.here.at ≡ weight_at c.args.unfolder.now c.args.here.at = ap (λ f. weight (scope_in (reverse f) c.args.here.at)) c.loop-process.invariant.1 in
    (subst (λ k. 4 * (node_size (process_of c.process-item.result) + weight_at c.loop-process.unfolder c.args.here.at) < k) c.decreases (omega (arith, less, same)), c.requires)

pub in_turn-returns-in_err-process_unfolded-clause-terms : goal.in_turn-returns-in_err-process_unfolded-clause-terms
in_turn-returns-in_err-process_unfolded-clause-terms t c =
    let sc = meant_at c.args.unfolder.now c.args.here.at in
    let this : Refuses c.in_err-process_unfolded.field-0.0 (unfolded (process_of c.process-item.result) sc c.args.here.depth (counted c.loop-process.unfolder)) =
    subst (λ f. Refuses c.in_err-process_unfolded.field-0.0 (unfolded (process_of c.process-item.result) (meant (scope_in (reverse f) c.args.here.at)) c.args.here.depth (counted c.loop-process.unfolder))) c.loop-process.invariant.1 c.in_err-process_unfolded.ensures.term in
    let refused : Refuses c.in_err-process_unfolded.field-0.0 (all_in_turn (nodes (map process_of c.args.processes.now)) sc c.args.here.depth (counted c.args.unfolder.now)) =
    refused_with c.in_err-process_unfolded.field-0.0 _ _
    (listed_refused (in_turn sc c.args.here.depth) (in_turn_one sc c.args.here.depth) put_term (in_turn_step sc c.args.here.depth) (all_in_turn (nodes (map process_of c.args.processes.now)) sc c.args.here.depth (counted c.args.unfolder.now))
    c.args.processes.now c.loop-process.process-index (map term_of c.loop-process.terms) (counted c.loop-process.unfolder) c.loop-process.invariant.0 c.process-item.result c.loop-process-test.true c.process-item.is) this in
    search rules

pub in_turn-loop-process-preserved : goal.in_turn-loop-process-preserved
in_turn-loop-process-preserved t c =
    let sc = meant_at c.args.unfolder.now c.args.here.at in
    let this : unfolded (process_of c.process-item.result) sc c.args.here.depth (counted c.loop-process.unfolder) ≡ Some (term_of c.in_ok-process_unfolded.field-0, counted c.process_unfolded.new.unfolder) =
    subst (λ f. unfolded (process_of c.process-item.result) (meant (scope_in (reverse f) c.args.here.at)) c.args.here.depth (counted c.loop-process.unfolder) ≡ Some (term_of c.in_ok-process_unfolded.field-0, counted c.process_unfolded.new.unfolder)) c.loop-process.invariant.1 c.in_ok-process_unfolded.ensures.term in
    let more : map term_of c.push.new.self ≡ map term_of c.loop-process.terms ++ term_of c.in_ok-process_unfolded.field-0 ∷ [] = ap (map term_of) c.in_ok-push.ensures.ok ∙ map-append term_of c.loop-process.terms (c.in_ok-process_unfolded.field-0 ∷ []) in (
      listed_next (in_turn sc c.args.here.depth) (in_turn_one sc c.args.here.depth) put_term (in_turn_step sc c.args.here.depth) (all_in_turn (nodes (map process_of c.args.processes.now)) sc c.args.here.depth (counted c.args.unfolder.now))
          c.args.processes.now c.loop-process.process-index (map term_of c.loop-process.terms) (counted c.loop-process.unfolder) c.loop-process.invariant.0 c.process-item.result c.loop-process-test.true c.process-item.is
          (term_of c.in_ok-process_unfolded.field-0) (counted c.process_unfolded.new.unfolder) this
          ∙ ap (λ ts. in_turn sc c.args.here.depth (drop (c.loop-process.process-index + 1) c.args.processes.now) (counted c.process_unfolded.new.unfolder) >>= λ r. Some (before put_term ts r)) (sym more),
      c.in_ok-process_unfolded.ensures.kept ∙ c.loop-process.invariant.1,
    )

pub in_turn-returns-clause-terms : goal.in_turn-returns-clause-terms
in_turn-returns-clause-terms t c =
    let sc = meant_at c.args.unfolder.now c.args.here.at in
    listed_last (in_turn sc c.args.here.depth) (in_turn_one sc c.args.here.depth) put_term (in_turn_step sc c.args.here.depth) (all_in_turn (nodes (map process_of c.args.processes.now)) sc c.args.here.depth (counted c.args.unfolder.now))
    c.args.processes.now c.loop-process.process-index (map term_of c.loop-process.terms) (counted c.loop-process.unfolder) c.loop-process.invariant.0 c.loop-process-test.false (no_terms, counted c.loop-process.unfolder) (in_turn_none sc c.args.here.depth (counted c.loop-process.unfolder))
    ∙ ap Some (all_terms (map term_of c.loop-process.terms) (counted c.loop-process.unfolder))

-- ---- processes beside each other

pub beside-process_unfolded-requires : goal.beside-process_unfolded-requires
beside-process_unfolded-requires t c =
    let less = item_within c.args.processes.now c.loop-process.process-index c.process-item.result c.loop-process-test.true c.process-item.is in
    let same : weight_at c.loop-process.unfolder c.args.here.at ≡ weight_at c.args.unfolder.now c.args.here.at = ap (λ f. weight (scope_in (reverse f) c.args.here.at)) c.loop-process.invariant.1 in
    (subst (λ k. 4 * (node_size (process_of c.process-item.result) + weight_at c.loop-process.unfolder c.args.here.at) < k) c.decreases (omega (arith, less, same)), c.requires)

pub beside-returns-in_err-number-clause-branches : goal.beside-returns-in_err-number-clause-branches
beside-returns-in_err-number-clause-branches t c =
    let sc = meant_at c.args.unfolder.now c.args.here.at in
    let given = all_beside (nodes (map process_of c.args.processes.now)) sc c.args.here.depth (counted c.args.unfolder.now) in
    let refused : Refuses c.in_err-number.field-0.0 given =
    refused_with c.in_err-number.field-0.0 (more_processes (counted c.loop-process.unfolder)) given
    (λ none. listed_refused (branches_in sc c.args.here.depth) (branch_one sc c.args.here.depth) put_branch (branch_step sc c.args.here.depth) given
    c.args.processes.now c.loop-process.process-index (map branch_of c.loop-process.branches) (counted c.loop-process.unfolder) c.loop-process.invariant.0 c.process-item.result c.loop-process-test.true c.process-item.is
    (no_number sc c.args.here.depth c.process-item.result (counted c.loop-process.unfolder) none))
    c.in_err-number.ensures.counts in
    search rules

pub beside-returns-in_err-body-clause-branches : goal.beside-returns-in_err-body-clause-branches
beside-returns-in_err-body-clause-branches t c =
    let sc = meant_at c.args.unfolder.now c.args.here.at in
    let given = all_beside (nodes (map process_of c.args.processes.now)) sc c.args.here.depth (counted c.args.unfolder.now) in
    let this : Refuses c.in_err-body.field-0.0 (unfolded (process_of c.process-item.result) sc c.args.here.depth (numbers_of c.more_processes.new.self)) =
    subst (λ f. Refuses c.in_err-body.field-0.0 (unfolded (process_of c.process-item.result) (meant (scope_in (reverse f) c.args.here.at)) c.args.here.depth (numbers_of c.more_processes.new.self))) c.loop-process.invariant.1 c.in_err-body.ensures.term in
    let refused : Refuses c.in_err-body.field-0.0 given =
    refused_with c.in_err-body.field-0.0 (unfolded (process_of c.process-item.result) sc c.args.here.depth (numbers_of c.more_processes.new.self)) given
    (λ none. listed_refused (branches_in sc c.args.here.depth) (branch_one sc c.args.here.depth) put_branch (branch_step sc c.args.here.depth) given
    c.args.processes.now c.loop-process.process-index (map branch_of c.loop-process.branches) (counted c.loop-process.unfolder) c.loop-process.invariant.0 c.process-item.result c.loop-process-test.true c.process-item.is
    (no_body sc c.args.here.depth c.process-item.result (counted c.loop-process.unfolder) (numbers_of c.more_processes.new.self) c.in_ok-number.ensures.counts none))
    this in
    search rules

pub beside-loop-process-preserved : goal.beside-loop-process-preserved
beside-loop-process-preserved t c =
    let sc = meant_at c.args.unfolder.now c.args.here.at in
    let given = all_beside (nodes (map process_of c.args.processes.now)) sc c.args.here.depth (counted c.args.unfolder.now) in
    let this : unfolded (process_of c.process-item.result) sc c.args.here.depth (numbers_of c.more_processes.new.self) ≡ Some (term_of c.in_ok-body.body, counted c.process_unfolded.new.unfolder) =
    subst (λ f. unfolded (process_of c.process-item.result) (meant (scope_in (reverse f) c.args.here.at)) c.args.here.depth (numbers_of c.more_processes.new.self) ≡ Some (term_of c.in_ok-body.body, counted c.process_unfolded.new.unfolder)) c.loop-process.invariant.1 c.in_ok-body.ensures.term in
    let made : branch_of (record { number = c.in_ok-number.number; body = c.in_ok-body.body }) ≡ T.and_branch (counted c.loop-process.unfolder).processes (term_of c.in_ok-body.body) = search (rules, the_lemmas, branch_lemmas) in
    let more : map branch_of c.push.new.self ≡ map branch_of c.loop-process.branches ++ T.and_branch (counted c.loop-process.unfolder).processes (term_of c.in_ok-body.body) ∷ [] =
    ap (map branch_of) c.in_ok-push.ensures.ok ∙ map-append branch_of c.loop-process.branches (record { number = c.in_ok-number.number; body = c.in_ok-body.body } ∷ [])
    ∙ ap (λ b. map branch_of c.loop-process.branches ++ b ∷ []) made in (
      listed_next (branches_in sc c.args.here.depth) (branch_one sc c.args.here.depth) put_branch (branch_step sc c.args.here.depth) given
          c.args.processes.now c.loop-process.process-index (map branch_of c.loop-process.branches) (counted c.loop-process.unfolder) c.loop-process.invariant.0 c.process-item.result c.loop-process-test.true c.process-item.is
          (T.and_branch (counted c.loop-process.unfolder).processes (term_of c.in_ok-body.body)) (counted c.process_unfolded.new.unfolder)
          (one_branch sc c.args.here.depth c.process-item.result (counted c.loop-process.unfolder) (numbers_of c.more_processes.new.self) c.in_ok-number.ensures.counts (term_of c.in_ok-body.body) (counted c.process_unfolded.new.unfolder) this)
          ∙ ap (λ bs. branches_in sc c.args.here.depth (drop (c.loop-process.process-index + 1) c.args.processes.now) (counted c.process_unfolded.new.unfolder) >>= λ r. Some (before put_branch bs r)) (sym more),
      c.in_ok-body.ensures.kept ∙ c.loop-process.invariant.1,
    )

pub beside-returns-clause-branches : goal.beside-returns-clause-branches
beside-returns-clause-branches t c =
    let sc = meant_at c.args.unfolder.now c.args.here.at in
    listed_last (branches_in sc c.args.here.depth) (branch_one sc c.args.here.depth) put_branch (branch_step sc c.args.here.depth) (all_beside (nodes (map process_of c.args.processes.now)) sc c.args.here.depth (counted c.args.unfolder.now))
    c.args.processes.now c.loop-process.process-index (map branch_of c.loop-process.branches) (counted c.loop-process.unfolder) c.loop-process.invariant.0 c.loop-process-test.false (T.no_branches, counted c.loop-process.unfolder) (branch_none sc c.args.here.depth (counted c.loop-process.unfolder))
    ∙ ap Some (all_branches (map branch_of c.loop-process.branches) (counted c.loop-process.unfolder))

-- ---- the choices of an IF

pub choices_unfolded-loop-choice-init : goal.choices_unfolded-loop-choice-init
choices_unfolded-loop-choice-init t c =
    (gathered_first _ _ _ (choices_step (meant_at c.args.unfolder.now c.args.here.at) c.args.here.depth) _ _ _ no_choices _ (ap choices_of c.new-choices.ensures) refl (λ r. refl), refl)

pub choices_unfolded-process_unfolded-requires : goal.choices_unfolded-process_unfolded-requires
choices_unfolded-process_unfolded-requires t c =
    let less = part_within choice_of c.args.list.now c.loop-choice.choice-index c.choice-item.result c.loop-choice-test.true c.choice-item.is in
    let same : weight_at c.loop-choice.unfolder c.args.here.at ≡ weight_at c.args.unfolder.now c.args.here.at = ap (λ f. weight (scope_in (reverse f) c.args.here.at)) c.loop-choice.invariant.1 in
    let light = c.in_ok-opened.ensures.weight in
    let part : choice_weight c.choice_opened.new.unfolder c.in_ok-opened.opened ≡ node_size (process_of c.in-When.body.now) + weight_at c.choice_opened.new.unfolder c.in-When.inside.at = ap (choice_weight c.choice_opened.new.unfolder) c.in-When.is in
    (subst (λ k. 4 * (node_size (process_of c.in-When.body.now) + weight_at c.choice_opened.new.unfolder c.in-When.inside.at) < k) c.decreases (omega (arith, less, same, light, part)), subst (λ o. choice_depth o ≤ 200) c.in-When.is c.in_ok-opened.ensures.within)

pub choices_unfolded-choices_unfolded-requires : goal.choices_unfolded-choices_unfolded-requires
choices_unfolded-choices_unfolded-requires t c =
    let less = part_within choice_of c.args.list.now c.loop-choice.choice-index c.choice-item.result c.loop-choice-test.true c.choice-item.is in
    let same : weight_at c.loop-choice.unfolder c.args.here.at ≡ weight_at c.args.unfolder.now c.args.here.at = ap (λ f. weight (scope_in (reverse f) c.args.here.at)) c.loop-choice.invariant.1 in
    let light = c.in_ok-opened.ensures.weight in
    let part : choice_weight c.choice_opened.new.unfolder c.in_ok-opened.opened ≡ nodes_size (nodes (map choice_of c.in-Inner.list.now)) + weight_at c.choice_opened.new.unfolder c.in-Inner.inside.at = ap (choice_weight c.choice_opened.new.unfolder) c.in-Inner.is in
    (subst (λ k. 4 * (nodes_size (nodes (map choice_of c.in-Inner.list.now)) + weight_at c.choice_opened.new.unfolder c.in-Inner.inside.at) + 1 < k) c.decreases (omega (arith, less, same, light, part)), subst (λ o. choice_depth o ≤ 200) c.in-Inner.is c.in_ok-opened.ensures.within)

pub choices_unfolded-returns-in_err-opened-clause-choices : goal.choices_unfolded-returns-in_err-opened-clause-choices
choices_unfolded-returns-in_err-opened-clause-choices t c =
    let sc = meant_at c.args.unfolder.now c.args.here.at in
    let this : Refuses c.in_err-opened.field-0.0 (choice_in sc c.args.here.depth c.choice-item.result (counted c.loop-choice.unfolder)) =
    subst (λ f. Refuses c.in_err-opened.field-0.0 (choice_in (meant (scope_in (reverse f) c.args.here.at)) c.args.here.depth c.choice-item.result (counted c.loop-choice.unfolder))) c.loop-choice.invariant.1 c.in_err-opened.ensures.opens in
    let refused : Refuses c.in_err-opened.field-0.0 (all_choices (nodes (map choice_of c.args.list.now)) sc c.args.here.depth (counted c.args.unfolder.now)) =
    gathered_refused _ _ _ (choices_step sc c.args.here.depth) _ _ _ _ _ c.loop-choice.invariant.0 _ c.loop-choice-test.true c.choice-item.is _ this in
    search rules

pub choices_unfolded-returns-in_err-body-in-When-clause-choices : goal.choices_unfolded-returns-in_err-body-in-When-clause-choices
choices_unfolded-returns-in_err-body-in-When-clause-choices t c =
    let sc = meant_at c.args.unfolder.now c.args.here.at in
    let u = c.choice_opened.new.unfolder in
    let opens : choice_in sc c.args.here.depth c.choice-item.result (counted c.loop-choice.unfolder) ≡ choice_left u (choices.When c.in-When.head c.in-When.body c.in-When.inside) =
    subst (λ f. choice_in (meant (scope_in (reverse f) c.args.here.at)) c.args.here.depth c.choice-item.result (counted c.loop-choice.unfolder) ≡ choice_left u c.in_ok-opened.opened) c.loop-choice.invariant.1 c.in_ok-opened.ensures.opens ∙ ap (choice_left u) c.in-When.is in
    let this : Refuses c.in_err-body-in-When.field-0.0 (choice_in sc c.args.here.depth c.choice-item.result (counted c.loop-choice.unfolder)) = put_refused (choice_with c.in-When.head) _ _ opens _ c.in_err-body-in-When.ensures.term in
    let refused : Refuses c.in_err-body-in-When.field-0.0 (all_choices (nodes (map choice_of c.args.list.now)) sc c.args.here.depth (counted c.args.unfolder.now)) =
    gathered_refused _ _ _ (choices_step sc c.args.here.depth) _ _ _ _ _ c.loop-choice.invariant.0 _ c.loop-choice-test.true c.choice-item.is _ this in
    search rules

pub choices_unfolded-loop-choice-preserved-in-When : goal.choices_unfolded-loop-choice-preserved-in-When
choices_unfolded-loop-choice-preserved-in-When t c =
    let sc = meant_at c.args.unfolder.now c.args.here.at in
    let u = c.choice_opened.new.unfolder in
    let opens : choice_in sc c.args.here.depth c.choice-item.result (counted c.loop-choice.unfolder) ≡ choice_left u (choices.When c.in-When.head c.in-When.body c.in-When.inside) =
    subst (λ f. choice_in (meant (scope_in (reverse f) c.args.here.at)) c.args.here.depth c.choice-item.result (counted c.loop-choice.unfolder) ≡ choice_left u c.in_ok-opened.opened) c.loop-choice.invariant.1 c.in_ok-opened.ensures.opens ∙ ap (choice_left u) c.in-When.is in
    let this : choice_in sc c.args.here.depth c.choice-item.result (counted c.loop-choice.unfolder) ≡ Some (choices_of c.in_ok-made-in-When.made, counted c.process_unfolded.new.unfolder) =
    put_done (choice_with c.in-When.head) _ _ opens (term_of c.in_ok-body-in-When.body) (counted c.process_unfolded.new.unfolder) (choices_of c.in_ok-made-in-When.made) c.in_ok-body-in-When.ensures.term c.in_ok-made-in-When.ensures in (
      gathered_next _ _ _ (choices_step sc c.args.here.depth) _ _ _ _ _ c.loop-choice.invariant.0 _ c.loop-choice-test.true c.choice-item.is _ _ _ this (λ r. choices_grown c.loop-choice.choices c.in_ok-made-in-When.made c.append.new.self r c.in_ok-append-in-When.ensures),
      blocks_kept c.loop-choice.unfolder.blocks.blocks.items u.blocks.blocks.items c.process_unfolded.new.unfolder.blocks.blocks.items c.close.new.self.blocks.items c.len-base.result c.len-base.ensures c.in_ok-opened.ensures.kept c.in_ok-body-in-When.ensures.kept c.close.ensures ∙ c.loop-choice.invariant.1,
    )

pub choices_unfolded-returns-in_err-within-in-Inner-clause-choices : goal.choices_unfolded-returns-in_err-within-in-Inner-clause-choices
choices_unfolded-returns-in_err-within-in-Inner-clause-choices t c =
    let sc = meant_at c.args.unfolder.now c.args.here.at in
    let u = c.choice_opened.new.unfolder in
    let opens : choice_in sc c.args.here.depth c.choice-item.result (counted c.loop-choice.unfolder) ≡ choice_left u (choices.Inner c.in-Inner.head c.in-Inner.list c.in-Inner.inside) =
    subst (λ f. choice_in (meant (scope_in (reverse f) c.args.here.at)) c.args.here.depth c.choice-item.result (counted c.loop-choice.unfolder) ≡ choice_left u c.in_ok-opened.opened) c.loop-choice.invariant.1 c.in_ok-opened.ensures.opens ∙ ap (choice_left u) c.in-Inner.is in
    let this : Refuses c.in_err-within-in-Inner.field-0.0 (choice_in sc c.args.here.depth c.choice-item.result (counted c.loop-choice.unfolder)) = put_refused (choices_within c.in-Inner.head) _ _ opens _ c.in_err-within-in-Inner.ensures.choices in
    let refused : Refuses c.in_err-within-in-Inner.field-0.0 (all_choices (nodes (map choice_of c.args.list.now)) sc c.args.here.depth (counted c.args.unfolder.now)) =
    gathered_refused _ _ _ (choices_step sc c.args.here.depth) _ _ _ _ _ c.loop-choice.invariant.0 _ c.loop-choice-test.true c.choice-item.is _ this in
    search rules

pub choices_unfolded-loop-choice-preserved : goal.choices_unfolded-loop-choice-preserved
choices_unfolded-loop-choice-preserved t c =
    let sc = meant_at c.args.unfolder.now c.args.here.at in
    let u = c.choice_opened.new.unfolder in
    let opens : choice_in sc c.args.here.depth c.choice-item.result (counted c.loop-choice.unfolder) ≡ choice_left u (choices.Inner c.in-Inner.head c.in-Inner.list c.in-Inner.inside) =
    subst (λ f. choice_in (meant (scope_in (reverse f) c.args.here.at)) c.args.here.depth c.choice-item.result (counted c.loop-choice.unfolder) ≡ choice_left u c.in_ok-opened.opened) c.loop-choice.invariant.1 c.in_ok-opened.ensures.opens ∙ ap (choice_left u) c.in-Inner.is in
    let this : choice_in sc c.args.here.depth c.choice-item.result (counted c.loop-choice.unfolder) ≡ Some (choices_of c.in_ok-made-in-Inner.made, counted c.choices_unfolded.new.unfolder) =
    put_done (choices_within c.in-Inner.head) _ _ opens (choices_of c.in_ok-within-in-Inner.within) (counted c.choices_unfolded.new.unfolder) (choices_of c.in_ok-made-in-Inner.made) c.in_ok-within-in-Inner.ensures.choices c.in_ok-made-in-Inner.ensures in (
      gathered_next _ _ _ (choices_step sc c.args.here.depth) _ _ _ _ _ c.loop-choice.invariant.0 _ c.loop-choice-test.true c.choice-item.is _ _ _ this (λ r. choices_grown c.loop-choice.choices c.in_ok-made-in-Inner.made c.append-in-Inner.new.self r c.in_ok-append-in-Inner.ensures),
      blocks_kept c.loop-choice.unfolder.blocks.blocks.items u.blocks.blocks.items c.choices_unfolded.new.unfolder.blocks.blocks.items c.close-in-Inner.new.self.blocks.items c.len-base.result c.len-base.ensures c.in_ok-opened.ensures.kept c.in_ok-within-in-Inner.ensures.kept c.close-in-Inner.ensures ∙ c.loop-choice.invariant.1,
    )

pub choices_unfolded-returns-clause-choices : goal.choices_unfolded-returns-clause-choices
choices_unfolded-returns-clause-choices t c =
    let sc = meant_at c.args.unfolder.now c.args.here.at in
    gathered_last _ _ _ (choices_step sc c.args.here.depth) _ _ _ _ _ c.loop-choice.invariant.0 c.loop-choice-test.false (no_choices, counted c.loop-choice.unfolder) (choices_none sc c.args.here.depth (counted c.loop-choice.unfolder))
    ∙ ap (λ a. Some (a, counted c.loop-choice.unfolder)) (no_more_choices (choices_of c.loop-choice.choices))

-- ---- the options of a CASE

pub options_unfolded-loop-selection-init : goal.options_unfolded-loop-selection-init
options_unfolded-loop-selection-init t c =
    (gathered_first _ _ _ (options_step c.args.primitive (meant_at c.args.unfolder.now c.args.here.at) c.args.here.depth) _ _ _ no_options _ (ap options_of c.new-options.ensures) (ap (λ x. (x, counted c.args.unfolder.now)) c.none_chosen-chosen.ensures) (λ r. refl), refl)

pub options_unfolded-process_unfolded-requires : goal.options_unfolded-process_unfolded-requires
options_unfolded-process_unfolded-requires t c =
    let less = part_within selection_of c.args.selections.now c.loop-selection.selection-index c.selection-item.result c.loop-selection-test.true c.selection-item.is in
    let same : weight_at c.loop-selection.unfolder c.args.here.at ≡ weight_at c.args.unfolder.now c.args.here.at = ap (λ f. weight (scope_in (reverse f) c.args.here.at)) c.loop-selection.invariant.1 in
    let o = c.in_ok-opened.opened in
    let light : node_size (process_of o.body.now) + weight_at c.option_opened.new.unfolder o.here.at < node_size (selection_of c.selection-item.result) + weight_at c.loop-selection.unfolder c.args.here.at = c.in_ok-opened.ensures.weight in
    (subst (λ k. 4 * (node_size (process_of o.body.now) + weight_at c.option_opened.new.unfolder o.here.at) < k) c.decreases (omega (arith, less, same, light)), c.in_ok-opened.ensures.within)

pub options_unfolded-returns-in_err-opened-clause-options : goal.options_unfolded-returns-in_err-opened-clause-options
options_unfolded-returns-in_err-opened-clause-options t c =
    let sc = meant_at c.args.unfolder.now c.args.here.at in
    let this : Refuses c.in_err-opened.field-0.0 (option_unfolded (selection_of c.selection-item.result) c.args.primitive (chosen_of c.loop-selection.chosen) sc c.args.here.depth (counted c.loop-selection.unfolder)) =
    subst (λ f. Refuses c.in_err-opened.field-0.0 (option_unfolded (selection_of c.selection-item.result) c.args.primitive (chosen_of c.loop-selection.chosen) (meant (scope_in (reverse f) c.args.here.at)) c.args.here.depth (counted c.loop-selection.unfolder)))
    c.loop-selection.invariant.1 c.in_err-opened.ensures.opens in
    let refused : Refuses c.in_err-opened.field-0.0 (all_options (nodes (map selection_of c.args.selections.now)) c.args.primitive none_chosen sc c.args.here.depth (counted c.args.unfolder.now)) =
    gathered_refused _ _ _ (options_step c.args.primitive sc c.args.here.depth) _ _ _ _ _ c.loop-selection.invariant.0 _ c.loop-selection-test.true c.selection-item.is _
    (option_refused c.args.primitive sc c.args.here.depth c.selection-item.result (chosen_of c.loop-selection.chosen) (counted c.loop-selection.unfolder) _ this) in
    search rules

pub options_unfolded-returns-in_err-body-clause-options : goal.options_unfolded-returns-in_err-body-clause-options
options_unfolded-returns-in_err-body-clause-options t c =
    let sc = meant_at c.args.unfolder.now c.args.here.at in
    let chosen = c.option_opened.new.chosen in
    let u = c.option_opened.new.unfolder in
    let o = c.in_ok-opened.opened in
    let given = option_unfolded (selection_of c.selection-item.result) c.args.primitive (chosen_of c.loop-selection.chosen) sc c.args.here.depth (counted c.loop-selection.unfolder) in
    let opens : given ≡ option_left chosen u o =
    subst (λ f. option_unfolded (selection_of c.selection-item.result) c.args.primitive (chosen_of c.loop-selection.chosen) (meant (scope_in (reverse f) c.args.here.at)) c.args.here.depth (counted c.loop-selection.unfolder) ≡ option_left chosen u o)
    c.loop-selection.invariant.1 c.in_ok-opened.ensures.opens in
    let this : Refuses c.in_err-body.field-0.0 given = put_refused (λ x. (option_with o.head x, chosen_of chosen)) _ _ opens _ c.in_err-body.ensures.term in
    let refused : Refuses c.in_err-body.field-0.0 (all_options (nodes (map selection_of c.args.selections.now)) c.args.primitive none_chosen sc c.args.here.depth (counted c.args.unfolder.now)) =
    gathered_refused _ _ _ (options_step c.args.primitive sc c.args.here.depth) _ _ _ _ _ c.loop-selection.invariant.0 _ c.loop-selection-test.true c.selection-item.is _
    (option_refused c.args.primitive sc c.args.here.depth c.selection-item.result (chosen_of c.loop-selection.chosen) (counted c.loop-selection.unfolder) _ this) in
    search rules

pub options_unfolded-loop-selection-preserved : goal.options_unfolded-loop-selection-preserved
options_unfolded-loop-selection-preserved t c =
    let sc = meant_at c.args.unfolder.now c.args.here.at in
    let chosen = c.option_opened.new.chosen in
    let u = c.option_opened.new.unfolder in
    let o = c.in_ok-opened.opened in
    let given = option_unfolded (selection_of c.selection-item.result) c.args.primitive (chosen_of c.loop-selection.chosen) sc c.args.here.depth (counted c.loop-selection.unfolder) in
    let opens : given ≡ option_left chosen u o =
    subst (λ f. option_unfolded (selection_of c.selection-item.result) c.args.primitive (chosen_of c.loop-selection.chosen) (meant (scope_in (reverse f) c.args.here.at)) c.args.here.depth (counted c.loop-selection.unfolder) ≡ option_left chosen u o)
    c.loop-selection.invariant.1 c.in_ok-opened.ensures.opens in
    let this : given ≡ Some ((option_of c.with_process.result no_options, chosen_of chosen), counted c.process_unfolded.new.unfolder) =
    put_done (λ x. (option_with o.head x, chosen_of chosen)) _ _ opens (term_of c.in_ok-body.body) (counted c.process_unfolded.new.unfolder) (option_of c.with_process.result no_options, chosen_of chosen) c.in_ok-body.ensures.term (ap (λ x. (x, chosen_of chosen)) c.with_process.ensures) in (
      gathered_next _ _ _ (options_step c.args.primitive sc c.args.here.depth) _ _ _ _ _ c.loop-selection.invariant.0 _ c.loop-selection-test.true c.selection-item.is _ _ _
          (option_done c.args.primitive sc c.args.here.depth c.selection-item.result (chosen_of c.loop-selection.chosen) (counted c.loop-selection.unfolder) _ _ _ this)
          (λ r. options_grown c.loop-selection.options c.with_process.result c.push.new.self r c.in_ok-push.ensures.ok),
      blocks_kept c.loop-selection.unfolder.blocks.blocks.items u.blocks.blocks.items c.process_unfolded.new.unfolder.blocks.blocks.items c.close.new.self.blocks.items c.len-base.result c.len-base.ensures c.in_ok-opened.ensures.kept c.in_ok-body.ensures.kept c.close.ensures ∙ c.loop-selection.invariant.1,
    )

pub options_unfolded-returns-clause-options : goal.options_unfolded-returns-clause-options
options_unfolded-returns-clause-options t c =
    let sc = meant_at c.args.unfolder.now c.args.here.at in
    gathered_last _ _ _ (options_step c.args.primitive sc c.args.here.depth) _ _ _ _ _ c.loop-selection.invariant.0 c.loop-selection-test.false (no_options, counted c.loop-selection.unfolder)
    (options_none c.args.primitive sc c.args.here.depth (chosen_of c.loop-selection.chosen, counted c.loop-selection.unfolder))
    ∙ ap (λ a. Some (a, counted c.loop-selection.unfolder)) (no_more_options (options_of c.loop-selection.options))

-- ---- inputs of variants

pub variants_unfolded-loop-variant-init : goal.variants_unfolded-loop-variant-init
variants_unfolded-loop-variant-init t c =
    (gathered_first _ _ _ (variants_step c.args.protocol.now (meant_at c.args.unfolder.now c.args.here.at) c.args.here.depth) _ _ _ no_variants _ (ap variants_of c.new-variants.ensures) (ap (λ (l : List ℕ). (l, counted c.args.unfolder.now)) c.in_ok-tags.ensures.listed) (λ r. refl), refl, c.in_ok-tags.ensures.tags)

pub variants_unfolded-process_unfolded-requires : goal.variants_unfolded-process_unfolded-requires
variants_unfolded-process_unfolded-requires t c =
    let less = part_within variant_of c.args.list.now c.loop-variant.variant-index c.variant-item.result c.loop-variant-test.true c.variant-item.is in
    let same : weight_at c.loop-variant.unfolder c.args.here.at ≡ weight_at c.args.unfolder.now c.args.here.at = ap (λ f. weight (scope_in (reverse f) c.args.here.at)) c.loop-variant.invariant.1 in
    let o = c.in_ok-opened.opened in
    let light : node_size (process_of o.body.now) + weight_at c.variant_opened.new.unfolder o.here.at < node_size (variant_of c.variant-item.result) + weight_at c.loop-variant.unfolder c.args.here.at = c.in_ok-opened.ensures.weight in
    (subst (λ k. 4 * (node_size (process_of o.body.now) + weight_at c.variant_opened.new.unfolder o.here.at) < k) c.decreases (omega (arith, less, same, light)), c.in_ok-opened.ensures.within)

pub variants_unfolded-returns-in_err-tag-clause-variants : goal.variants_unfolded-returns-in_err-tag-clause-variants
variants_unfolded-returns-in_err-tag-clause-variants t c =
    let sc = meant_at c.args.unfolder.now c.args.here.at in
    let this : Refuses c.in_err-tag.field-0.0 (new_tag c.args.protocol.now c.tag_of.result.now (listed_in c.loop-variant.tags)) =
    c.in_err-tag.ensures.tag c.args.protocol.now c.loop-variant.invariant.2 in
    let refused : Refuses c.in_err-tag.field-0.0 (all_variants (nodes (map variant_of c.args.list.now)) c.args.protocol.now [] sc c.args.here.depth (counted c.args.unfolder.now)) =
    gathered_refused _ _ _ (variants_step c.args.protocol.now sc c.args.here.depth) _ _ _ _ _ c.loop-variant.invariant.0 _ c.loop-variant-test.true c.variant-item.is _
    (no_tag c.args.protocol.now sc c.args.here.depth c.variant-item.result (listed_in c.loop-variant.tags) (counted c.loop-variant.unfolder) c.tag_of.result.now c.tag_of.ensures _ this) in
    search rules

pub variants_unfolded-returns-in_err-opened-clause-variants : goal.variants_unfolded-returns-in_err-opened-clause-variants
variants_unfolded-returns-in_err-opened-clause-variants t c =
    let sc = meant_at c.args.unfolder.now c.args.here.at in
    let tag : new_tag c.args.protocol.now c.tag_of.result.now (listed_in c.loop-variant.tags) ≡ Some c.in_ok-tag.tag =
    c.in_ok-tag.ensures.tag c.args.protocol.now c.loop-variant.invariant.2 in
    let given = variant_unfolded (variant_of c.variant-item.result) c.args.protocol.now c.in_ok-tag.tag sc c.args.here.depth (counted c.loop-variant.unfolder) in
    let this : Refuses c.in_err-opened.field-0.0 given =
    subst (λ f. Refuses c.in_err-opened.field-0.0 (variant_unfolded (variant_of c.variant-item.result) c.args.protocol.now c.in_ok-tag.tag (meant (scope_in (reverse f) c.args.here.at)) c.args.here.depth (counted c.loop-variant.unfolder)))
    c.loop-variant.invariant.1 c.in_err-opened.ensures.opens in
    let refused : Refuses c.in_err-opened.field-0.0 (all_variants (nodes (map variant_of c.args.list.now)) c.args.protocol.now [] sc c.args.here.depth (counted c.args.unfolder.now)) =
    gathered_refused _ _ _ (variants_step c.args.protocol.now sc c.args.here.depth) _ _ _ _ _ c.loop-variant.invariant.0 _ c.loop-variant-test.true c.variant-item.is _
    (variant_refused c.args.protocol.now sc c.args.here.depth c.variant-item.result (listed_in c.loop-variant.tags) (counted c.loop-variant.unfolder) c.tag_of.result.now c.tag_of.ensures c.in_ok-tag.tag tag _ this) in
    search rules

pub variants_unfolded-returns-in_err-body-clause-variants : goal.variants_unfolded-returns-in_err-body-clause-variants
variants_unfolded-returns-in_err-body-clause-variants t c =
    let sc = meant_at c.args.unfolder.now c.args.here.at in
    let tag : new_tag c.args.protocol.now c.tag_of.result.now (listed_in c.loop-variant.tags) ≡ Some c.in_ok-tag.tag =
    c.in_ok-tag.ensures.tag c.args.protocol.now c.loop-variant.invariant.2 in
    let given = variant_unfolded (variant_of c.variant-item.result) c.args.protocol.now c.in_ok-tag.tag sc c.args.here.depth (counted c.loop-variant.unfolder) in
    let u = c.variant_opened.new.unfolder in
    let o = c.in_ok-opened.opened in
    let opens : given ≡ variant_left u o =
    subst (λ f. variant_unfolded (variant_of c.variant-item.result) c.args.protocol.now c.in_ok-tag.tag (meant (scope_in (reverse f) c.args.here.at)) c.args.here.depth (counted c.loop-variant.unfolder) ≡ variant_left u o)
    c.loop-variant.invariant.1 c.in_ok-opened.ensures.opens in
    let this : Refuses c.in_err-body.field-0.0 given = put_refused (variant_with o.head) _ _ opens _ c.in_err-body.ensures.term in
    let refused : Refuses c.in_err-body.field-0.0 (all_variants (nodes (map variant_of c.args.list.now)) c.args.protocol.now [] sc c.args.here.depth (counted c.args.unfolder.now)) =
    gathered_refused _ _ _ (variants_step c.args.protocol.now sc c.args.here.depth) _ _ _ _ _ c.loop-variant.invariant.0 _ c.loop-variant-test.true c.variant-item.is _
    (variant_refused c.args.protocol.now sc c.args.here.depth c.variant-item.result (listed_in c.loop-variant.tags) (counted c.loop-variant.unfolder) c.tag_of.result.now c.tag_of.ensures c.in_ok-tag.tag tag _ this) in
    search rules

pub variants_unfolded-loop-variant-preserved : goal.variants_unfolded-loop-variant-preserved
variants_unfolded-loop-variant-preserved t c =
    let sc = meant_at c.args.unfolder.now c.args.here.at in
    let tag : new_tag c.args.protocol.now c.tag_of.result.now (listed_in c.loop-variant.tags) ≡ Some c.in_ok-tag.tag =
    c.in_ok-tag.ensures.tag c.args.protocol.now c.loop-variant.invariant.2 in
    let given = variant_unfolded (variant_of c.variant-item.result) c.args.protocol.now c.in_ok-tag.tag sc c.args.here.depth (counted c.loop-variant.unfolder) in
    let u = c.variant_opened.new.unfolder in
    let o = c.in_ok-opened.opened in
    let opens : given ≡ variant_left u o =
    subst (λ f. variant_unfolded (variant_of c.variant-item.result) c.args.protocol.now c.in_ok-tag.tag (meant (scope_in (reverse f) c.args.here.at)) c.args.here.depth (counted c.loop-variant.unfolder) ≡ variant_left u o)
    c.loop-variant.invariant.1 c.in_ok-opened.ensures.opens in
    let this : given ≡ Some (term_variant_of c.with_process.result no_variants, counted c.process_unfolded.new.unfolder) =
    put_done (variant_with o.head) _ _ opens (term_of c.in_ok-body.body) (counted c.process_unfolded.new.unfolder) (term_variant_of c.with_process.result no_variants) c.in_ok-body.ensures.term c.with_process.ensures in (
      gathered_next _ _ _ (variants_step c.args.protocol.now sc c.args.here.depth) _ _ _ _ _ c.loop-variant.invariant.0 _ c.loop-variant-test.true c.variant-item.is _ _ _
          (variant_done c.args.protocol.now sc c.args.here.depth c.variant-item.result (listed_in c.loop-variant.tags) (counted c.loop-variant.unfolder) c.tag_of.result.now c.tag_of.ensures c.in_ok-tag.tag tag _ _ (listed_in c.next.new.self) c.in_ok-tag.ensures.listed this)
          (λ r. variants_grown c.loop-variant.variants c.with_process.result c.push.new.self r c.in_ok-push.ensures.ok),
      blocks_kept c.loop-variant.unfolder.blocks.blocks.items u.blocks.blocks.items c.process_unfolded.new.unfolder.blocks.blocks.items c.close.new.self.blocks.items c.len-base.result c.len-base.ensures c.in_ok-opened.ensures.kept c.in_ok-body.ensures.kept c.close.ensures ∙ c.loop-variant.invariant.1,
      tags_kept c.args.protocol.now c.loop-variant.tags c.next.new.self c.in_ok-tag.ensures.numbers c.loop-variant.invariant.2,
    )

pub variants_unfolded-returns-clause-variants : goal.variants_unfolded-returns-clause-variants
variants_unfolded-returns-clause-variants t c =
    let sc = meant_at c.args.unfolder.now c.args.here.at in
    gathered_last _ _ _ (variants_step c.args.protocol.now sc c.args.here.depth) _ _ _ _ _ c.loop-variant.invariant.0 c.loop-variant-test.false (no_variants, counted c.loop-variant.unfolder)
    (variants_none c.args.protocol.now sc c.args.here.depth (listed_in c.loop-variant.tags, counted c.loop-variant.unfolder))
    ∙ ap (λ a. Some (a, counted c.loop-variant.unfolder)) (no_more_variants (variants_of c.loop-variant.variants))

-- ---- the copies of a replicated PAR

pub copies_unfolded-copies-init : goal.copies_unfolded-copies-init
copies_unfolded-copies-init t c =
    let u = copy_for (lines.replicator_of c.args.replicator.now) (process_of c.args.body.now) (meant_at c.args.unfolder.now c.args.here.at) c.args.here.depth in
    let n = counted c.args.unfolder.now in
    let first = to_z w64 (of_z w64 c.args.first) in (
      subst (λ bs. Copied u (copied u c.args.count first n) c.args.count first (map branch_of bs) n) (sym c.new-branches.ensures) (copied_first u c.args.count first n),
      refl,
      subst (λ (v : ℤ). (v +ℤ pos c.args.count) ≤ℤ pos 2147483648) (sym (to_z-of_z w64 c.args.first c.ranges.first)) c.requires.last,
    )

pub copies_unfolded-process_unfolded-requires : goal.copies_unfolded-process_unfolded-requires
copies_unfolded-process_unfolded-requires t c =
    let same : weight_at c.copies.unfolder c.args.here.at ≡ weight_at c.args.unfolder.now c.args.here.at = ap (λ f. weight (scope_in (reverse f) c.args.here.at)) c.copies.invariant.1 in
    let o = c.in_ok-opened.opened in
    let light : node_size (process_of o.body.now) + weight_at c.copy_opened.new.unfolder o.here.at ≡ node_size (process_of c.args.body.now) + weight_at c.copies.unfolder c.args.here.at = c.in_ok-opened.ensures.weight in
    (subst (λ k. 4 * (node_size (process_of o.body.now) + weight_at c.copy_opened.new.unfolder o.here.at) < k) c.decreases (omega (arith, same, light)), c.in_ok-opened.ensures.within)

pub copies_unfolded-returns-in_err-opened-clause-branches : goal.copies_unfolded-returns-in_err-opened-clause-branches
copies_unfolded-returns-in_err-opened-clause-branches t c =
    let r = lines.replicator_of c.args.replicator.now in
    let p = process_of c.args.body.now in
    let u = copy_for r p (meant_at c.args.unfolder.now c.args.here.at) c.args.here.depth in
    let value = to_z w64 c.copies.value-bits in
    let this : Refuses c.in_err-opened.field-0.0 (numbered_copy u value (counted c.copies.unfolder)) =
    subst (λ f. Refuses c.in_err-opened.field-0.0 (numbered_copy (copy_for r p (meant (scope_in (reverse f) c.args.here.at)) c.args.here.depth) value (counted c.copies.unfolder))) c.copies.invariant.1 c.in_err-opened.ensures.opens in
    let refused : Refuses c.in_err-opened.field-0.0 (copied u c.args.count c.args.first (counted c.args.unfolder.now)) =
    subst (λ (v : ℤ). Refuses c.in_err-opened.field-0.0 (copied u c.args.count v (counted c.args.unfolder.now))) (to_z-of_z w64 c.args.first c.ranges.first)
    (copied_refused u _ _ _ _ _ c.copies.invariant.0 c.copies-test.true c.in_err-opened.field-0.0 this) in
    search rules

pub copies_unfolded-returns-in_err-body-clause-branches : goal.copies_unfolded-returns-in_err-body-clause-branches
copies_unfolded-returns-in_err-body-clause-branches t c =
    let r = lines.replicator_of c.args.replicator.now in
    let p = process_of c.args.body.now in
    let u = copy_for r p (meant_at c.args.unfolder.now c.args.here.at) c.args.here.depth in
    let value = to_z w64 c.copies.value-bits in
    let o = c.in_ok-opened.opened in
    let after = c.copy_opened.new.unfolder in
    let opens : numbered_copy u value (counted c.copies.unfolder) ≡ copy_left after o =
    subst (λ f. numbered_copy (copy_for r p (meant (scope_in (reverse f) c.args.here.at)) c.args.here.depth) value (counted c.copies.unfolder) ≡ copy_left after o) c.copies.invariant.1 c.in_ok-opened.ensures.opens in
    let this : Refuses c.in_err-body.field-0.0 (numbered_copy u value (counted c.copies.unfolder)) = put_refused (λ t. T.and_branch o.number t) _ _ opens _ c.in_err-body.ensures.term in
    let refused : Refuses c.in_err-body.field-0.0 (copied u c.args.count c.args.first (counted c.args.unfolder.now)) =
    subst (λ (v : ℤ). Refuses c.in_err-body.field-0.0 (copied u c.args.count v (counted c.args.unfolder.now))) (to_z-of_z w64 c.args.first c.ranges.first)
    (copied_refused u _ _ _ _ _ c.copies.invariant.0 c.copies-test.true c.in_err-body.field-0.0 this) in
    search rules

pub copies_unfolded-copies-preserved : goal.copies_unfolded-copies-preserved
copies_unfolded-copies-preserved t c =
    let r = lines.replicator_of c.args.replicator.now in
    let p = process_of c.args.body.now in
    let u = copy_for r p (meant_at c.args.unfolder.now c.args.here.at) c.args.here.depth in
    let value = to_z w64 c.copies.value-bits in
    let o = c.in_ok-opened.opened in
    let after = c.copy_opened.new.unfolder in
    let opens : numbered_copy u value (counted c.copies.unfolder) ≡ copy_left after o =
    subst (λ f. numbered_copy (copy_for r p (meant (scope_in (reverse f) c.args.here.at)) c.args.here.depth) value (counted c.copies.unfolder) ≡ copy_left after o) c.copies.invariant.1 c.in_ok-opened.ensures.opens in
    let made : branch_of (record { number = o.number; body = c.in_ok-body.body }) ≡ T.and_branch o.number (term_of c.in_ok-body.body) = search (rules, the_lemmas, branch_lemmas) in
    let this : numbered_copy u value (counted c.copies.unfolder) ≡ Some (T.and_branch o.number (term_of c.in_ok-body.body), counted c.process_unfolded.new.unfolder) =
    put_done (λ t. T.and_branch o.number t) _ _ opens (term_of c.in_ok-body.body) (counted c.process_unfolded.new.unfolder) (T.and_branch o.number (term_of c.in_ok-body.body)) c.in_ok-body.ensures.term refl in
    let more : map branch_of c.push.new.self ≡ map branch_of c.copies.branches ++ T.and_branch o.number (term_of c.in_ok-body.body) ∷ [] =
    ap (map branch_of) c.in_ok-push.ensures.ok ∙ map-append branch_of c.copies.branches (record { number = o.number; body = c.in_ok-body.body } ∷ [])
    ∙ ap (λ b. map branch_of c.copies.branches ++ b ∷ []) made in
    let fewer : (c.copies.left - 1) + 1 ≡ c.copies.left = omega (arith, c.copies-test.true) in
    let fits : SFits w64 c.next_value-value.result = search rules in
    let same : to_z w64 (of_z w64 c.next_value-value.result) ≡ c.next_value-value.result = to_z-of_z w64 c.next_value-value.result fits in
    let next : to_z w64 (of_z w64 c.next_value-value.result) ≡ value +ℤ pos 1 = same ∙ c.next_value-value.ensures.next in (
      copied_next u _ _ _ _ _ c.copies.invariant.0 _ fewer _ _ _ _ this next more,
      blocks_kept c.copies.unfolder.blocks.blocks.items after.blocks.blocks.items c.process_unfolded.new.unfolder.blocks.blocks.items c.close.new.self.blocks.items c.len-base.result c.len-base.ensures c.in_ok-opened.ensures.kept c.in_ok-body.ensures.kept c.close.ensures ∙ c.copies.invariant.1,
      subst (λ (v : ℤ). (v +ℤ pos (c.copies.left - 1)) ≤ℤ pos 2147483648) (sym same) c.next_value-value.ensures.last,
    )

pub copies_unfolded-returns-clause-branches : goal.copies_unfolded-returns-clause-branches
copies_unfolded-returns-clause-branches t c =
    let u = copy_for (lines.replicator_of c.args.replicator.now) (process_of c.args.body.now) (meant_at c.args.unfolder.now c.args.here.at) c.args.here.depth in
    subst (λ (v : ℤ). copied u c.args.count v (counted c.args.unfolder.now) ≡ Some (branches_of c.copies.branches, counted c.copies.unfolder)) (to_z-of_z w64 c.args.first c.ranges.first)
    (copied_last u _ _ _ _ _ c.copies.invariant.0 c.copies-test.false)

-- ---- the arms of an ALT

pub arms_unfolded-loop-arm-init : goal.arms_unfolded-loop-arm-init
arms_unfolded-loop-arm-init t c =
    (gathered_first _ _ _ (arms_step (meant_at c.args.unfolder.now c.args.here.at) c.args.here.depth) _ _ _ no_arms _ (ap arms_of c.new-arms.ensures) refl (λ r. refl), refl)

pub arms_unfolded-process_unfolded-requires : goal.arms_unfolded-process_unfolded-requires
arms_unfolded-process_unfolded-requires t c =
    let less = part_within arm_of c.args.list.now c.loop-arm.arm-index c.arm-item.result c.loop-arm-test.true c.arm-item.is in
    let same : weight_at c.loop-arm.unfolder c.args.here.at ≡ weight_at c.args.unfolder.now c.args.here.at = ap (λ f. weight (scope_in (reverse f) c.args.here.at)) c.loop-arm.invariant.1 in
    let light = c.in_ok-opened.ensures.weight in
    let part : arm_weight c.arm_opened.new.unfolder c.in_ok-opened.opened ≡ node_size (process_of c.in-Guarded.body.now) + weight_at c.arm_opened.new.unfolder c.in-Guarded.inside.at = ap (arm_weight c.arm_opened.new.unfolder) c.in-Guarded.is in
    (subst (λ k. 4 * (node_size (process_of c.in-Guarded.body.now) + weight_at c.arm_opened.new.unfolder c.in-Guarded.inside.at) < k) c.decreases (omega (arith, less, same, light, part)), subst (λ o. arm_depth o ≤ 200) c.in-Guarded.is c.in_ok-opened.ensures.within)

pub arms_unfolded-variants_unfolded-requires : goal.arms_unfolded-variants_unfolded-requires
arms_unfolded-variants_unfolded-requires t c =
    let less = part_within arm_of c.args.list.now c.loop-arm.arm-index c.arm-item.result c.loop-arm-test.true c.arm-item.is in
    let same : weight_at c.loop-arm.unfolder c.args.here.at ≡ weight_at c.args.unfolder.now c.args.here.at = ap (λ f. weight (scope_in (reverse f) c.args.here.at)) c.loop-arm.invariant.1 in
    let light = c.in_ok-opened.ensures.weight in
    let part : arm_weight c.arm_opened.new.unfolder c.in_ok-opened.opened ≡ nodes_size (nodes (map variant_of c.in-OnVariant.list.now)) + weight_at c.arm_opened.new.unfolder c.in-OnVariant.inside.at = ap (arm_weight c.arm_opened.new.unfolder) c.in-OnVariant.is in
    (subst (λ k. 4 * (nodes_size (nodes (map variant_of c.in-OnVariant.list.now)) + weight_at c.arm_opened.new.unfolder c.in-OnVariant.inside.at) + 1 < k) c.decreases (omega (arith, less, same, light, part)), subst (λ o. arm_depth o ≤ 200) c.in-OnVariant.is c.in_ok-opened.ensures.within)

pub arms_unfolded-arms_unfolded-requires : goal.arms_unfolded-arms_unfolded-requires
arms_unfolded-arms_unfolded-requires t c =
    let less = part_within arm_of c.args.list.now c.loop-arm.arm-index c.arm-item.result c.loop-arm-test.true c.arm-item.is in
    let same : weight_at c.loop-arm.unfolder c.args.here.at ≡ weight_at c.args.unfolder.now c.args.here.at = ap (λ f. weight (scope_in (reverse f) c.args.here.at)) c.loop-arm.invariant.1 in
    let light = c.in_ok-opened.ensures.weight in
    let part : arm_weight c.arm_opened.new.unfolder c.in_ok-opened.opened ≡ nodes_size (nodes (map arm_of c.in-Inner.list.now)) + weight_at c.arm_opened.new.unfolder c.in-Inner.inside.at = ap (arm_weight c.arm_opened.new.unfolder) c.in-Inner.is in
    (subst (λ k. 4 * (nodes_size (nodes (map arm_of c.in-Inner.list.now)) + weight_at c.arm_opened.new.unfolder c.in-Inner.inside.at) + 1 < k) c.decreases (omega (arith, less, same, light, part)), subst (λ o. arm_depth o ≤ 200) c.in-Inner.is c.in_ok-opened.ensures.within)

pub arms_unfolded-returns-in_err-opened-clause-arms : goal.arms_unfolded-returns-in_err-opened-clause-arms
arms_unfolded-returns-in_err-opened-clause-arms t c =
    let sc = meant_at c.args.unfolder.now c.args.here.at in
    let this : Refuses c.in_err-opened.field-0.0 (arm_in sc c.args.here.depth c.arm-item.result (counted c.loop-arm.unfolder)) =
    subst (λ f. Refuses c.in_err-opened.field-0.0 (arm_in (meant (scope_in (reverse f) c.args.here.at)) c.args.here.depth c.arm-item.result (counted c.loop-arm.unfolder))) c.loop-arm.invariant.1 c.in_err-opened.ensures.opens in
    let refused : Refuses c.in_err-opened.field-0.0 (all_arms (nodes (map arm_of c.args.list.now)) sc c.args.here.depth (counted c.args.unfolder.now)) =
    gathered_refused _ _ _ (arms_step sc c.args.here.depth) _ _ _ _ _ c.loop-arm.invariant.0 _ c.loop-arm-test.true c.arm-item.is _ this in
    search rules

pub arms_unfolded-returns-in_err-body-in-Guarded-clause-arms : goal.arms_unfolded-returns-in_err-body-in-Guarded-clause-arms
arms_unfolded-returns-in_err-body-in-Guarded-clause-arms t c =
    let sc = meant_at c.args.unfolder.now c.args.here.at in
    let u = c.arm_opened.new.unfolder in
    let opens : arm_in sc c.args.here.depth c.arm-item.result (counted c.loop-arm.unfolder) ≡ arm_left u (arms.Guarded c.in-Guarded.head c.in-Guarded.body c.in-Guarded.inside) =
    subst (λ f. arm_in (meant (scope_in (reverse f) c.args.here.at)) c.args.here.depth c.arm-item.result (counted c.loop-arm.unfolder) ≡ arm_left u c.in_ok-opened.opened) c.loop-arm.invariant.1 c.in_ok-opened.ensures.opens ∙ ap (arm_left u) c.in-Guarded.is in
    let this : Refuses c.in_err-body-in-Guarded.field-0.0 (arm_in sc c.args.here.depth c.arm-item.result (counted c.loop-arm.unfolder)) = put_refused (arm_with c.in-Guarded.head) _ _ opens _ c.in_err-body-in-Guarded.ensures.term in
    let refused : Refuses c.in_err-body-in-Guarded.field-0.0 (all_arms (nodes (map arm_of c.args.list.now)) sc c.args.here.depth (counted c.args.unfolder.now)) =
    gathered_refused _ _ _ (arms_step sc c.args.here.depth) _ _ _ _ _ c.loop-arm.invariant.0 _ c.loop-arm-test.true c.arm-item.is _ this in
    search rules

pub arms_unfolded-loop-arm-preserved-in-Guarded : goal.arms_unfolded-loop-arm-preserved-in-Guarded
arms_unfolded-loop-arm-preserved-in-Guarded t c =
    let sc = meant_at c.args.unfolder.now c.args.here.at in
    let u = c.arm_opened.new.unfolder in
    let opens : arm_in sc c.args.here.depth c.arm-item.result (counted c.loop-arm.unfolder) ≡ arm_left u (arms.Guarded c.in-Guarded.head c.in-Guarded.body c.in-Guarded.inside) =
    subst (λ f. arm_in (meant (scope_in (reverse f) c.args.here.at)) c.args.here.depth c.arm-item.result (counted c.loop-arm.unfolder) ≡ arm_left u c.in_ok-opened.opened) c.loop-arm.invariant.1 c.in_ok-opened.ensures.opens ∙ ap (arm_left u) c.in-Guarded.is in
    let this : arm_in sc c.args.here.depth c.arm-item.result (counted c.loop-arm.unfolder) ≡ Some (arms_of c.in_ok-made-in-Guarded.made, counted c.process_unfolded.new.unfolder) =
    put_done (arm_with c.in-Guarded.head) _ _ opens (term_of c.in_ok-body-in-Guarded.body) (counted c.process_unfolded.new.unfolder) (arms_of c.in_ok-made-in-Guarded.made) c.in_ok-body-in-Guarded.ensures.term c.in_ok-made-in-Guarded.ensures in (
      gathered_next _ _ _ (arms_step sc c.args.here.depth) _ _ _ _ _ c.loop-arm.invariant.0 _ c.loop-arm-test.true c.arm-item.is _ _ _ this (λ r. arms_grown c.loop-arm.arms c.in_ok-made-in-Guarded.made c.append.new.self r c.in_ok-append-in-Guarded.ensures),
      blocks_kept c.loop-arm.unfolder.blocks.blocks.items u.blocks.blocks.items c.process_unfolded.new.unfolder.blocks.blocks.items c.close.new.self.blocks.items c.len-base.result c.len-base.ensures c.in_ok-opened.ensures.kept c.in_ok-body-in-Guarded.ensures.kept c.close.ensures ∙ c.loop-arm.invariant.1,
    )

pub arms_unfolded-returns-in_err-variants-in-OnVariant-clause-arms : goal.arms_unfolded-returns-in_err-variants-in-OnVariant-clause-arms
arms_unfolded-returns-in_err-variants-in-OnVariant-clause-arms t c =
    let sc = meant_at c.args.unfolder.now c.args.here.at in
    let u = c.arm_opened.new.unfolder in
    let opens : arm_in sc c.args.here.depth c.arm-item.result (counted c.loop-arm.unfolder) ≡ arm_left u (arms.OnVariant c.in-OnVariant.head c.in-OnVariant.protocol c.in-OnVariant.list c.in-OnVariant.inside) =
    subst (λ f. arm_in (meant (scope_in (reverse f) c.args.here.at)) c.args.here.depth c.arm-item.result (counted c.loop-arm.unfolder) ≡ arm_left u c.in_ok-opened.opened) c.loop-arm.invariant.1 c.in_ok-opened.ensures.opens ∙ ap (arm_left u) c.in-OnVariant.is in
    let this : Refuses c.in_err-variants-in-OnVariant.field-0.0 (arm_in sc c.args.here.depth c.arm-item.result (counted c.loop-arm.unfolder)) = put_refused (variants_within c.in-OnVariant.head) _ _ opens _ c.in_err-variants-in-OnVariant.ensures.variants in
    let refused : Refuses c.in_err-variants-in-OnVariant.field-0.0 (all_arms (nodes (map arm_of c.args.list.now)) sc c.args.here.depth (counted c.args.unfolder.now)) =
    gathered_refused _ _ _ (arms_step sc c.args.here.depth) _ _ _ _ _ c.loop-arm.invariant.0 _ c.loop-arm-test.true c.arm-item.is _ this in
    search rules

pub arms_unfolded-loop-arm-preserved-in-OnVariant : goal.arms_unfolded-loop-arm-preserved-in-OnVariant
arms_unfolded-loop-arm-preserved-in-OnVariant t c =
    let sc = meant_at c.args.unfolder.now c.args.here.at in
    let u = c.arm_opened.new.unfolder in
    let opens : arm_in sc c.args.here.depth c.arm-item.result (counted c.loop-arm.unfolder) ≡ arm_left u (arms.OnVariant c.in-OnVariant.head c.in-OnVariant.protocol c.in-OnVariant.list c.in-OnVariant.inside) =
    subst (λ f. arm_in (meant (scope_in (reverse f) c.args.here.at)) c.args.here.depth c.arm-item.result (counted c.loop-arm.unfolder) ≡ arm_left u c.in_ok-opened.opened) c.loop-arm.invariant.1 c.in_ok-opened.ensures.opens ∙ ap (arm_left u) c.in-OnVariant.is in
    let this : arm_in sc c.args.here.depth c.arm-item.result (counted c.loop-arm.unfolder) ≡ Some (arms_of c.in_ok-made-in-OnVariant.made, counted c.variants_unfolded.new.unfolder) =
    put_done (variants_within c.in-OnVariant.head) _ _ opens (variants_of c.in_ok-variants-in-OnVariant.variants) (counted c.variants_unfolded.new.unfolder) (arms_of c.in_ok-made-in-OnVariant.made) c.in_ok-variants-in-OnVariant.ensures.variants c.in_ok-made-in-OnVariant.ensures in (
      gathered_next _ _ _ (arms_step sc c.args.here.depth) _ _ _ _ _ c.loop-arm.invariant.0 _ c.loop-arm-test.true c.arm-item.is _ _ _ this (λ r. arms_grown c.loop-arm.arms c.in_ok-made-in-OnVariant.made c.append-in-OnVariant.new.self r c.in_ok-append-in-OnVariant.ensures),
      blocks_kept c.loop-arm.unfolder.blocks.blocks.items u.blocks.blocks.items c.variants_unfolded.new.unfolder.blocks.blocks.items c.close-in-OnVariant.new.self.blocks.items c.len-base.result c.len-base.ensures c.in_ok-opened.ensures.kept c.in_ok-variants-in-OnVariant.ensures.kept c.close-in-OnVariant.ensures ∙ c.loop-arm.invariant.1,
    )

pub arms_unfolded-returns-in_err-within-in-Inner-clause-arms : goal.arms_unfolded-returns-in_err-within-in-Inner-clause-arms
arms_unfolded-returns-in_err-within-in-Inner-clause-arms t c =
    let sc = meant_at c.args.unfolder.now c.args.here.at in
    let u = c.arm_opened.new.unfolder in
    let opens : arm_in sc c.args.here.depth c.arm-item.result (counted c.loop-arm.unfolder) ≡ arm_left u (arms.Inner c.in-Inner.head c.in-Inner.list c.in-Inner.inside) =
    subst (λ f. arm_in (meant (scope_in (reverse f) c.args.here.at)) c.args.here.depth c.arm-item.result (counted c.loop-arm.unfolder) ≡ arm_left u c.in_ok-opened.opened) c.loop-arm.invariant.1 c.in_ok-opened.ensures.opens ∙ ap (arm_left u) c.in-Inner.is in
    let this : Refuses c.in_err-within-in-Inner.field-0.0 (arm_in sc c.args.here.depth c.arm-item.result (counted c.loop-arm.unfolder)) = put_refused (arms_within c.in-Inner.head) _ _ opens _ c.in_err-within-in-Inner.ensures.arms in
    let refused : Refuses c.in_err-within-in-Inner.field-0.0 (all_arms (nodes (map arm_of c.args.list.now)) sc c.args.here.depth (counted c.args.unfolder.now)) =
    gathered_refused _ _ _ (arms_step sc c.args.here.depth) _ _ _ _ _ c.loop-arm.invariant.0 _ c.loop-arm-test.true c.arm-item.is _ this in
    search rules

pub arms_unfolded-loop-arm-preserved : goal.arms_unfolded-loop-arm-preserved
arms_unfolded-loop-arm-preserved t c =
    let sc = meant_at c.args.unfolder.now c.args.here.at in
    let u = c.arm_opened.new.unfolder in
    let opens : arm_in sc c.args.here.depth c.arm-item.result (counted c.loop-arm.unfolder) ≡ arm_left u (arms.Inner c.in-Inner.head c.in-Inner.list c.in-Inner.inside) =
    subst (λ f. arm_in (meant (scope_in (reverse f) c.args.here.at)) c.args.here.depth c.arm-item.result (counted c.loop-arm.unfolder) ≡ arm_left u c.in_ok-opened.opened) c.loop-arm.invariant.1 c.in_ok-opened.ensures.opens ∙ ap (arm_left u) c.in-Inner.is in
    let this : arm_in sc c.args.here.depth c.arm-item.result (counted c.loop-arm.unfolder) ≡ Some (arms_of c.in_ok-made-in-Inner.made, counted c.arms_unfolded.new.unfolder) =
    put_done (arms_within c.in-Inner.head) _ _ opens (arms_of c.in_ok-within-in-Inner.within) (counted c.arms_unfolded.new.unfolder) (arms_of c.in_ok-made-in-Inner.made) c.in_ok-within-in-Inner.ensures.arms c.in_ok-made-in-Inner.ensures in (
      gathered_next _ _ _ (arms_step sc c.args.here.depth) _ _ _ _ _ c.loop-arm.invariant.0 _ c.loop-arm-test.true c.arm-item.is _ _ _ this (λ r. arms_grown c.loop-arm.arms c.in_ok-made-in-Inner.made c.append-in-Inner.new.self r c.in_ok-append-in-Inner.ensures),
      blocks_kept c.loop-arm.unfolder.blocks.blocks.items u.blocks.blocks.items c.arms_unfolded.new.unfolder.blocks.blocks.items c.close-in-Inner.new.self.blocks.items c.len-base.result c.len-base.ensures c.in_ok-opened.ensures.kept c.in_ok-within-in-Inner.ensures.kept c.close-in-Inner.ensures ∙ c.loop-arm.invariant.1,
    )

pub arms_unfolded-returns-clause-arms : goal.arms_unfolded-returns-clause-arms
arms_unfolded-returns-clause-arms t c =
    let sc = meant_at c.args.unfolder.now c.args.here.at in
    gathered_last _ _ _ (arms_step sc c.args.here.depth) _ _ _ _ _ c.loop-arm.invariant.0 c.loop-arm-test.false (no_arms, counted c.loop-arm.unfolder) (arms_none sc c.args.here.depth (counted c.loop-arm.unfolder))
    ∙ ap (λ a. Some (a, counted c.loop-arm.unfolder)) (no_more_arms (arms_of c.loop-arm.arms))
