use Rattle.std.proofs.Common.{◌≡◌, ◌+◌, ◌-◌, Some, None, refl, sym, ap, ◌∙◌, ◌∷◌, ◌++◌, [], map, Option, Global}
use Rattle.std.specs.declared.boxed.Box.{Box}
use Rattle.std.proofs.lemmas.List.{map_push}
use Rattle.std.proofs.lemmas.Result.{err_from_is_err_and}
use Rattle.occ_text.specs.Words.{logical_lines}
use Rattle.occ_tree_grammar.specs.Limits.{most_levels}
use Rattle.occ_tree_grammar.specs.declared.tree.line.Replicator.{Replicator}
use Rattle.occ_tree_grammar.specs.declared.lines.head.ChoiceHead.TheVariants as choiceHeads
use Rattle.occ_tree_grammar.specs.declared.lines.head.ArmHead.TheVariants as armHeads
use Rattle.occ_tree_grammar.specs.Lines.Views.{replicator_of}
use Rattle.occ_tree_grammar.specs.Lines.Heads.{alternation, conditional, nested_conditional, nested_alternation}
use Rattle.occ_tree_grammar.specs.Lines.HeadViews.{choice_head_of, option_head_of, arm_head_of, variant_head_of}
use Rattle.occ_tree_grammar.specs.Processes.Trees.{Node, node, single_body, process as the_process, choice as the_choice, option as the_option, arm as the_arm, variant as the_variant}
use Rattle.occ_tree_grammar.specs.Processes.Views.{process_of, choice_of, selection_of, arm_of, variant_of, decl_of}
use Rattle.occ_tree_grammar.specs.Processes.Reading.{node_at}
use Rattle.occ_tree_grammar.proofs.Made.{declared, process_action, process_alt, process_alt_for, process_if, process_if_for, process_case, process_variants, choice_when, choice_if, choice_if_for, arm_guarded, arm_variants, arm_alt, arm_alt_for}
use Rattle.occ_tree_reader.proofs.ManyLoop.{goes_on, ends, is_full, is_last}
use Rattle.occ_tree_reader.proofs.Steps.{fails_below, fails_none}
use Rattle.occ_tree_reader.specs.declared.processes.opened.Opened.TheVariants as openings
use Rattle.occ_tree_reader.specs.declared.processes.opened.OpenedDecl.TheVariants as declarations
use Rattle.occ_tree_reader.specs.Opened.{opened_head}
use Rattle.occ_tree_reader.proofs.Levels.{fails_then, none_begun, begun_is, no_declarations, no_line, node_is}
use Rattle.occ_tree_reader.proofs.Openings.{no_body, body_is, no_processes, processes_are, no_declaration, declaration_is}
use Rattle.occ_tree_reader.proofs.processes.read.+tree.Goals.{processes-else-loop-test, processes-then-loop-test+in_default, choices-else-loop-test, choices-then-loop-test+in_default, selections-else-loop-test, selections-then-loop-test+in_default, arms-else-loop-test, arms-then-loop-test+in_default, variants-else-loop-test, variants-then-loop-test+in_default, declarations-else-loop-test, declarations-then-loop-test+in_default}
use Rattle.occ_tree_reader.proofs.processes.read.+tree.Goals as goal

pub process-returns-in_err-declarations : goal.process-returns-in_err-declarations
process-returns-in_err-declarations t c =
    let p = err_from_is_err_and c.from_residual.result c.from_residual.ensures.1 in
    rw (p.1, p.2) (no_declarations c.in_err-declarations.field-0.0 the_process c.args.left c.args.level (logical_lines c.args.lines.now) c.in_err-declarations.ensures.read)

pub process-returns-in_err-line : goal.process-returns-in_err-line
process-returns-in_err-line t c =
    let p = err_from_is_err_and c.from_residual-in_err-line.result c.from_residual-in_err-line.ensures.1 in
    rw (p.1, p.2) (no_line the_process c.args.left c.args.level (logical_lines c.args.lines.now) (map decl_of c.in_ok-declarations.declarations.items) (logical_lines c.in_ok-declarations.rest.now) c.in_ok-declarations.ensures.read c.in_err-line.field-0.0 c.in_err-line.ensures)

pub process-returns-in-Action : goal.process-returns-in-Action
process-returns-in-Action t c =
    rw (node_is the_process c.args.left c.args.level (logical_lines c.args.lines.now) (map decl_of c.in_ok-declarations.declarations.items) (logical_lines c.in_ok-declarations.rest.now) c.in_ok-declarations.ensures.read opened_head c.in_ok-line.line c.in_ok-line.opened (openings.Action c.in-Action.action) (logical_lines c.in_ok-line.rest.now) c.in_ok-line.ensures c.in-Action.is) (ap (λ (n : Node the_process). Some (n, logical_lines c.in_ok-line.rest.now)) (sym (process_action c.in_ok-declarations.declarations c.in_ok-line.line c.in-Action.action)))

pub process-returns-in_err-body-in-Process : goal.process-returns-in_err-body-in-Process
process-returns-in_err-body-in-Process t c =
    let p = err_from_is_err_and c.from_residual-in_err-body-in-Process.result c.from_residual-in_err-body-in-Process.ensures.1 in
    rw (p.1, p.2, node_is the_process c.args.left c.args.level (logical_lines c.args.lines.now) (map decl_of c.in_ok-declarations.declarations.items) (logical_lines c.in_ok-declarations.rest.now) c.in_ok-declarations.ensures.read opened_head c.in_ok-line.line c.in_ok-line.opened (openings.Process c.in-Process.around) (logical_lines c.in_ok-line.rest.now) c.in_ok-line.ensures c.in-Process.is) (no_body c.args.level (node_at (most_levels + 1) (c.args.left - 1) (c.args.level + 1)) (map decl_of c.in_ok-declarations.declarations.items) c.in_ok-line.line (logical_lines c.in_ok-line.rest.now) c.in_err-body-in-Process.field-0.0 c.in-Process.around c.in_err-body-in-Process.ensures)

pub process-returns-in_ok-with_body-in-Process : goal.process-returns-in_ok-with_body-in-Process
process-returns-in_ok-with_body-in-Process t c =
    rw (node_is the_process c.args.left c.args.level (logical_lines c.args.lines.now) (map decl_of c.in_ok-declarations.declarations.items) (logical_lines c.in_ok-declarations.rest.now) c.in_ok-declarations.ensures.read opened_head c.in_ok-line.line c.in_ok-line.opened (openings.Process c.in-Process.around) (logical_lines c.in_ok-line.rest.now) c.in_ok-line.ensures c.in-Process.is, body_is c.args.level (node_at (most_levels + 1) (c.args.left - 1) (c.args.level + 1)) (map decl_of c.in_ok-declarations.declarations.items) c.in_ok-line.line (logical_lines c.in_ok-line.rest.now) c.in-Process.around (process_of c.in_ok-body-in-Process.body) (logical_lines c.in_ok-body-in-Process.rest.now) c.in_ok-body-in-Process.ensures) (ap (λ (n : Node the_process). Some (n, logical_lines c.in_ok-body-in-Process.rest.now)) (sym c.in_ok-with_body-in-Process.ensures))

pub process-returns-in_err-all-in-Processes : goal.process-returns-in_err-all-in-Processes
process-returns-in_err-all-in-Processes t c =
    let p = err_from_is_err_and c.from_residual-in_err-all-in-Processes.result c.from_residual-in_err-all-in-Processes.ensures.1 in
    rw (p.1, p.2, node_is the_process c.args.left c.args.level (logical_lines c.args.lines.now) (map decl_of c.in_ok-declarations.declarations.items) (logical_lines c.in_ok-declarations.rest.now) c.in_ok-declarations.ensures.read opened_head c.in_ok-line.line c.in_ok-line.opened (openings.Processes c.in-Processes.order) (logical_lines c.in_ok-line.rest.now) c.in_ok-line.ensures c.in-Processes.is) (no_processes c.args.level (node_at (most_levels + 1) (c.args.left - 1) (c.args.level + 1)) (map decl_of c.in_ok-declarations.declarations.items) c.in_ok-line.line (logical_lines c.in_ok-line.rest.now) c.in_err-all-in-Processes.field-0.0 c.in-Processes.order c.in_err-all-in-Processes.ensures)

pub process-returns-in_ok-all-in-Processes : goal.process-returns-in_ok-all-in-Processes
process-returns-in_ok-all-in-Processes t c =
    rw (node_is the_process c.args.left c.args.level (logical_lines c.args.lines.now) (map decl_of c.in_ok-declarations.declarations.items) (logical_lines c.in_ok-declarations.rest.now) c.in_ok-declarations.ensures.read opened_head c.in_ok-line.line c.in_ok-line.opened (openings.Processes c.in-Processes.order) (logical_lines c.in_ok-line.rest.now) c.in_ok-line.ensures c.in-Processes.is, processes_are c.args.level (node_at (most_levels + 1) (c.args.left - 1) (c.args.level + 1)) (map decl_of c.in_ok-declarations.declarations.items) c.in_ok-line.line (logical_lines c.in_ok-line.rest.now) c.in-Processes.order (map process_of c.in_ok-all-in-Processes.all.items) (logical_lines c.in_ok-all-in-Processes.rest.now) c.in_ok-all-in-Processes.ensures) (ap (λ (n : Node the_process). Some (n, logical_lines c.in_ok-all-in-Processes.rest.now)) (sym c.with_processes.ensures))

pub process-returns-in_err-case-in-Choice : goal.process-returns-in_err-case-in-Choice
process-returns-in_err-case-in-Choice t c =
    let p = err_from_is_err_and c.from_residual-in_err-case-in-Choice.result c.from_residual-in_err-case-in-Choice.ensures.1 in
    rw (p.1, p.2, node_is the_process c.args.left c.args.level (logical_lines c.args.lines.now) (map decl_of c.in_ok-declarations.declarations.items) (logical_lines c.in_ok-declarations.rest.now) c.in_ok-declarations.ensures.read opened_head c.in_ok-line.line c.in_ok-line.opened (openings.Choice c.in-Choice.index) (logical_lines c.in_ok-line.rest.now) c.in_ok-line.ensures c.in-Choice.is) (fails_below c.in_err-case-in-Choice.field-0.0 _ _ _ c.in_err-case-in-Choice.ensures)

pub process-returns-in_ok-case-in-Choice-2 : goal.process-returns-in_ok-case-in-Choice-2
process-returns-in_ok-case-in-Choice-2 t c =
    rw (node_is the_process c.args.left c.args.level (logical_lines c.args.lines.now) (map decl_of c.in_ok-declarations.declarations.items) (logical_lines c.in_ok-declarations.rest.now) c.in_ok-declarations.ensures.read opened_head c.in_ok-line.line c.in_ok-line.opened (openings.Choice c.in-Choice.index) (logical_lines c.in_ok-line.rest.now) c.in_ok-line.ensures c.in-Choice.is, c.in_ok-case-in-Choice.ensures) (ap (λ (n : Node the_process). Some (n, logical_lines c.in_ok-case-in-Choice.rest.now)) (ap (λ (p : Rattle.occ_tree_grammar.specs.declared.tree.process.Choice.Choice). node {k = the_process} (declared c.in_ok-declarations.declarations) c.in_ok-line.line (conditional (Some (replicator_of c.in-Choice.index.value))) (single_body (choice_of p))) (sym c.in_ok-case-in-Choice-2.ensures.ok) ∙ sym (process_if_for c.in_ok-declarations.declarations c.in_ok-line.line c.in-Choice.index c.in_ok-case-in-Choice-2.case)))

pub process-returns-in_err-cases-in-Choices : goal.process-returns-in_err-cases-in-Choices
process-returns-in_err-cases-in-Choices t c =
    let p = err_from_is_err_and c.from_residual-in_err-cases-in-Choices.result c.from_residual-in_err-cases-in-Choices.ensures.1 in
    rw (p.1, p.2, node_is the_process c.args.left c.args.level (logical_lines c.args.lines.now) (map decl_of c.in_ok-declarations.declarations.items) (logical_lines c.in_ok-declarations.rest.now) c.in_ok-declarations.ensures.read opened_head c.in_ok-line.line c.in_ok-line.opened openings.Choices (logical_lines c.in_ok-line.rest.now) c.in_ok-line.ensures c.in-Choices.is) (fails_below c.in_err-cases-in-Choices.field-0.0 _ _ _ c.in_err-cases-in-Choices.ensures)

pub process-returns-in_ok-cases-in-Choices : goal.process-returns-in_ok-cases-in-Choices
process-returns-in_ok-cases-in-Choices t c =
    rw (node_is the_process c.args.left c.args.level (logical_lines c.args.lines.now) (map decl_of c.in_ok-declarations.declarations.items) (logical_lines c.in_ok-declarations.rest.now) c.in_ok-declarations.ensures.read opened_head c.in_ok-line.line c.in_ok-line.opened openings.Choices (logical_lines c.in_ok-line.rest.now) c.in_ok-line.ensures c.in-Choices.is, c.in_ok-cases-in-Choices.ensures) (ap (λ (n : Node the_process). Some (n, logical_lines c.in_ok-cases-in-Choices.rest.now)) (sym (process_if c.in_ok-declarations.declarations c.in_ok-line.line c.in_ok-cases-in-Choices.cases)))

pub process-returns-in_err-options-in-Options : goal.process-returns-in_err-options-in-Options
process-returns-in_err-options-in-Options t c =
    let p = err_from_is_err_and c.from_residual-in_err-options-in-Options.result c.from_residual-in_err-options-in-Options.ensures.1 in
    rw (p.1, p.2, node_is the_process c.args.left c.args.level (logical_lines c.args.lines.now) (map decl_of c.in_ok-declarations.declarations.items) (logical_lines c.in_ok-declarations.rest.now) c.in_ok-declarations.ensures.read opened_head c.in_ok-line.line c.in_ok-line.opened (openings.Options c.in-Options.value) (logical_lines c.in_ok-line.rest.now) c.in_ok-line.ensures c.in-Options.is) (fails_below c.in_err-options-in-Options.field-0.0 _ _ _ c.in_err-options-in-Options.ensures)

pub process-returns-in_ok-options-in-Options : goal.process-returns-in_ok-options-in-Options
process-returns-in_ok-options-in-Options t c =
    rw (node_is the_process c.args.left c.args.level (logical_lines c.args.lines.now) (map decl_of c.in_ok-declarations.declarations.items) (logical_lines c.in_ok-declarations.rest.now) c.in_ok-declarations.ensures.read opened_head c.in_ok-line.line c.in_ok-line.opened (openings.Options c.in-Options.value) (logical_lines c.in_ok-line.rest.now) c.in_ok-line.ensures c.in-Options.is, c.in_ok-options-in-Options.ensures) (ap (λ (n : Node the_process). Some (n, logical_lines c.in_ok-options-in-Options.rest.now)) (sym (process_case c.in_ok-declarations.declarations c.in_ok-line.line c.in-Options.value c.in_ok-options-in-Options.options)))

pub process-returns-in_err-guard-in-Arm : goal.process-returns-in_err-guard-in-Arm
process-returns-in_err-guard-in-Arm t c =
    let p = err_from_is_err_and c.from_residual-in_err-guard-in-Arm.result c.from_residual-in_err-guard-in-Arm.ensures.1 in
    rw (p.1, p.2, node_is the_process c.args.left c.args.level (logical_lines c.args.lines.now) (map decl_of c.in_ok-declarations.declarations.items) (logical_lines c.in_ok-declarations.rest.now) c.in_ok-declarations.ensures.read opened_head c.in_ok-line.line c.in_ok-line.opened (openings.Arm c.in-Arm.pri c.in-Arm.index) (logical_lines c.in_ok-line.rest.now) c.in_ok-line.ensures c.in-Arm.is) (fails_below c.in_err-guard-in-Arm.field-0.0 _ _ _ c.in_err-guard-in-Arm.ensures)

pub process-returns-in_ok-guard-in-Arm-2 : goal.process-returns-in_ok-guard-in-Arm-2
process-returns-in_ok-guard-in-Arm-2 t c =
    rw (node_is the_process c.args.left c.args.level (logical_lines c.args.lines.now) (map decl_of c.in_ok-declarations.declarations.items) (logical_lines c.in_ok-declarations.rest.now) c.in_ok-declarations.ensures.read opened_head c.in_ok-line.line c.in_ok-line.opened (openings.Arm c.in-Arm.pri c.in-Arm.index) (logical_lines c.in_ok-line.rest.now) c.in_ok-line.ensures c.in-Arm.is, c.in_ok-guard-in-Arm.ensures) (ap (λ (n : Node the_process). Some (n, logical_lines c.in_ok-guard-in-Arm.rest.now)) (ap (λ (p : Rattle.occ_tree_grammar.specs.declared.tree.process.Arm.Arm). node {k = the_process} (declared c.in_ok-declarations.declarations) c.in_ok-line.line (alternation c.in-Arm.pri (Some (replicator_of c.in-Arm.index.value))) (single_body (arm_of p))) (sym c.in_ok-guard-in-Arm-2.ensures.ok) ∙ sym (process_alt_for c.in_ok-declarations.declarations c.in_ok-line.line c.in-Arm.pri c.in-Arm.index c.in_ok-guard-in-Arm-2.guard)))

pub process-returns-in_err-guards-in-Arms : goal.process-returns-in_err-guards-in-Arms
process-returns-in_err-guards-in-Arms t c =
    let p = err_from_is_err_and c.from_residual-in_err-guards-in-Arms.result c.from_residual-in_err-guards-in-Arms.ensures.1 in
    rw (p.1, p.2, node_is the_process c.args.left c.args.level (logical_lines c.args.lines.now) (map decl_of c.in_ok-declarations.declarations.items) (logical_lines c.in_ok-declarations.rest.now) c.in_ok-declarations.ensures.read opened_head c.in_ok-line.line c.in_ok-line.opened (openings.Arms c.in-Arms.pri) (logical_lines c.in_ok-line.rest.now) c.in_ok-line.ensures c.in-Arms.is) (fails_below c.in_err-guards-in-Arms.field-0.0 _ _ _ c.in_err-guards-in-Arms.ensures)

pub process-returns-in_ok-guards-in-Arms : goal.process-returns-in_ok-guards-in-Arms
process-returns-in_ok-guards-in-Arms t c =
    rw (node_is the_process c.args.left c.args.level (logical_lines c.args.lines.now) (map decl_of c.in_ok-declarations.declarations.items) (logical_lines c.in_ok-declarations.rest.now) c.in_ok-declarations.ensures.read opened_head c.in_ok-line.line c.in_ok-line.opened (openings.Arms c.in-Arms.pri) (logical_lines c.in_ok-line.rest.now) c.in_ok-line.ensures c.in-Arms.is, c.in_ok-guards-in-Arms.ensures) (ap (λ (n : Node the_process). Some (n, logical_lines c.in_ok-guards-in-Arms.rest.now)) (sym (process_alt c.in_ok-declarations.declarations c.in_ok-line.line c.in-Arms.pri c.in_ok-guards-in-Arms.guards)))

pub process-returns-in_err-all-in-Variants : goal.process-returns-in_err-all-in-Variants
process-returns-in_err-all-in-Variants t c =
    let p = err_from_is_err_and c.from_residual-in_err-all-in-Variants.result c.from_residual-in_err-all-in-Variants.ensures.1 in
    rw (p.1, p.2, node_is the_process c.args.left c.args.level (logical_lines c.args.lines.now) (map decl_of c.in_ok-declarations.declarations.items) (logical_lines c.in_ok-declarations.rest.now) c.in_ok-declarations.ensures.read opened_head c.in_ok-line.line c.in_ok-line.opened (openings.Variants c.in-Variants.channel) (logical_lines c.in_ok-line.rest.now) c.in_ok-line.ensures c.in-Variants.is) (fails_below c.in_err-all-in-Variants.field-0.0 _ _ _ c.in_err-all-in-Variants.ensures)

pub process-returns-in_ok-all-in-Variants : goal.process-returns-in_ok-all-in-Variants
process-returns-in_ok-all-in-Variants t c =
    rw (node_is the_process c.args.left c.args.level (logical_lines c.args.lines.now) (map decl_of c.in_ok-declarations.declarations.items) (logical_lines c.in_ok-declarations.rest.now) c.in_ok-declarations.ensures.read opened_head c.in_ok-line.line c.in_ok-line.opened (openings.Variants c.in-Variants.channel) (logical_lines c.in_ok-line.rest.now) c.in_ok-line.ensures c.in-Variants.is, c.in_ok-all-in-Variants.ensures) (ap (λ (n : Node the_process). Some (n, logical_lines c.in_ok-all-in-Variants.rest.now)) (sym (process_variants c.in_ok-declarations.declarations c.in_ok-line.line c.in-Variants.channel c.in_ok-all-in-Variants.all)))

pub choice-returns-in_err-declarations : goal.choice-returns-in_err-declarations
choice-returns-in_err-declarations t c =
    let p = err_from_is_err_and c.from_residual.result c.from_residual.ensures.1 in
    rw (p.1, p.2) (no_declarations c.in_err-declarations.field-0.0 the_choice c.args.left c.args.level (logical_lines c.args.lines.now) c.in_err-declarations.ensures.read)

pub choice-returns-in_err-line : goal.choice-returns-in_err-line
choice-returns-in_err-line t c =
    let p = err_from_is_err_and c.from_residual-in_err-line.result c.from_residual-in_err-line.ensures.1 in
    rw (p.1, p.2) (no_line the_choice c.args.left c.args.level (logical_lines c.args.lines.now) (map decl_of c.in_ok-declarations.declarations.items) (logical_lines c.in_ok-declarations.rest.now) c.in_ok-declarations.ensures.read c.in_err-line.field-0.0 c.in_err-line.ensures)

pub choice-returns-in_err-one-in-When : goal.choice-returns-in_err-one-in-When
choice-returns-in_err-one-in-When t c =
    let p = err_from_is_err_and c.from_residual-in_err-one-in-When.result c.from_residual-in_err-one-in-When.ensures.1 in
    rw (p.1, p.2, node_is the_choice c.args.left c.args.level (logical_lines c.args.lines.now) (map decl_of c.in_ok-declarations.declarations.items) (logical_lines c.in_ok-declarations.rest.now) c.in_ok-declarations.ensures.read choice_head_of c.in_ok-line.line c.in_ok-line.head (choiceHeads.When c.in-When.condition) (logical_lines c.in_ok-line.rest.now) c.in_ok-line.ensures c.in-When.is) (fails_below c.in_err-one-in-When.field-0.0 _ _ _ c.in_err-one-in-When.ensures)

pub choice-returns-in_ok-one-in-When : goal.choice-returns-in_ok-one-in-When
choice-returns-in_ok-one-in-When t c =
    rw (node_is the_choice c.args.left c.args.level (logical_lines c.args.lines.now) (map decl_of c.in_ok-declarations.declarations.items) (logical_lines c.in_ok-declarations.rest.now) c.in_ok-declarations.ensures.read choice_head_of c.in_ok-line.line c.in_ok-line.head (choiceHeads.When c.in-When.condition) (logical_lines c.in_ok-line.rest.now) c.in_ok-line.ensures c.in-When.is, c.in_ok-one-in-When.ensures) (ap (λ (n : Node the_choice). Some (n, logical_lines c.in_ok-one-in-When.rest.now)) (sym (choice_when c.in_ok-declarations.declarations c.in_ok-line.line c.in-When.condition c.in_ok-one-in-When.one)))

pub choice-returns-in_err-cases-in-None : goal.choice-returns-in_err-cases-in-None
choice-returns-in_err-cases-in-None t c =
    let p = err_from_is_err_and c.from_residual-in_err-cases-in-None.result c.from_residual-in_err-cases-in-None.ensures.1 in
    rw (p.1, p.2, node_is the_choice c.args.left c.args.level (logical_lines c.args.lines.now) (map decl_of c.in_ok-declarations.declarations.items) (logical_lines c.in_ok-declarations.rest.now) c.in_ok-declarations.ensures.read choice_head_of c.in_ok-line.line c.in_ok-line.head (choiceHeads.If None) (logical_lines c.in_ok-line.rest.now) c.in_ok-line.ensures (c.in-If.is ∙ ap choiceHeads.If c.in-None.is)) (fails_below c.in_err-cases-in-None.field-0.0 _ _ _ c.in_err-cases-in-None.ensures)

pub choice-returns-in_ok-cases-in-None : goal.choice-returns-in_ok-cases-in-None
choice-returns-in_ok-cases-in-None t c =
    rw (node_is the_choice c.args.left c.args.level (logical_lines c.args.lines.now) (map decl_of c.in_ok-declarations.declarations.items) (logical_lines c.in_ok-declarations.rest.now) c.in_ok-declarations.ensures.read choice_head_of c.in_ok-line.line c.in_ok-line.head (choiceHeads.If None) (logical_lines c.in_ok-line.rest.now) c.in_ok-line.ensures (c.in-If.is ∙ ap choiceHeads.If c.in-None.is), c.in_ok-cases-in-None.ensures) (ap (λ (n : Node the_choice). Some (n, logical_lines c.in_ok-cases-in-None.rest.now)) (sym (choice_if c.in_ok-declarations.declarations c.in_ok-line.line c.in_ok-cases-in-None.cases)))

pub choice-returns-in_err-case-in-Some : goal.choice-returns-in_err-case-in-Some
choice-returns-in_err-case-in-Some t c =
    let p = err_from_is_err_and c.from_residual-in_err-case-in-Some.result c.from_residual-in_err-case-in-Some.ensures.1 in
    rw (p.1, p.2, node_is the_choice c.args.left c.args.level (logical_lines c.args.lines.now) (map decl_of c.in_ok-declarations.declarations.items) (logical_lines c.in_ok-declarations.rest.now) c.in_ok-declarations.ensures.read choice_head_of c.in_ok-line.line c.in_ok-line.head (choiceHeads.If (Some c.in-Some.index)) (logical_lines c.in_ok-line.rest.now) c.in_ok-line.ensures (c.in-If.is ∙ ap choiceHeads.If c.in-Some.is)) (fails_below c.in_err-case-in-Some.field-0.0 _ _ _ c.in_err-case-in-Some.ensures)

pub choice-returns-in_ok-case-in-Some-2 : goal.choice-returns-in_ok-case-in-Some-2
choice-returns-in_ok-case-in-Some-2 t c =
    rw (node_is the_choice c.args.left c.args.level (logical_lines c.args.lines.now) (map decl_of c.in_ok-declarations.declarations.items) (logical_lines c.in_ok-declarations.rest.now) c.in_ok-declarations.ensures.read choice_head_of c.in_ok-line.line c.in_ok-line.head (choiceHeads.If (Some c.in-Some.index)) (logical_lines c.in_ok-line.rest.now) c.in_ok-line.ensures (c.in-If.is ∙ ap choiceHeads.If c.in-Some.is), c.in_ok-case-in-Some.ensures) (ap (λ (n : Node the_choice). Some (n, logical_lines c.in_ok-case-in-Some.rest.now)) (ap (λ (p : Rattle.occ_tree_grammar.specs.declared.tree.process.Choice.Choice). node {k = the_choice} (declared c.in_ok-declarations.declarations) c.in_ok-line.line (nested_conditional (Some (replicator_of c.in-Some.index.value))) (single_body (choice_of p))) (sym c.in_ok-case-in-Some-2.ensures.ok) ∙ sym (choice_if_for c.in_ok-declarations.declarations c.in_ok-line.line c.in-Some.index c.in_ok-case-in-Some-2.case)))

pub arm-returns-in_err-declarations : goal.arm-returns-in_err-declarations
arm-returns-in_err-declarations t c =
    let p = err_from_is_err_and c.from_residual.result c.from_residual.ensures.1 in
    rw (p.1, p.2) (no_declarations c.in_err-declarations.field-0.0 the_arm c.args.left c.args.level (logical_lines c.args.lines.now) c.in_err-declarations.ensures.read)

pub arm-returns-in_err-line : goal.arm-returns-in_err-line
arm-returns-in_err-line t c =
    let p = err_from_is_err_and c.from_residual-in_err-line.result c.from_residual-in_err-line.ensures.1 in
    rw (p.1, p.2) (no_line the_arm c.args.left c.args.level (logical_lines c.args.lines.now) (map decl_of c.in_ok-declarations.declarations.items) (logical_lines c.in_ok-declarations.rest.now) c.in_ok-declarations.ensures.read c.in_err-line.field-0.0 c.in_err-line.ensures)

pub arm-returns-in_err-one-in-Guarded : goal.arm-returns-in_err-one-in-Guarded
arm-returns-in_err-one-in-Guarded t c =
    let p = err_from_is_err_and c.from_residual-in_err-one-in-Guarded.result c.from_residual-in_err-one-in-Guarded.ensures.1 in
    rw (p.1, p.2, node_is the_arm c.args.left c.args.level (logical_lines c.args.lines.now) (map decl_of c.in_ok-declarations.declarations.items) (logical_lines c.in_ok-declarations.rest.now) c.in_ok-declarations.ensures.read arm_head_of c.in_ok-line.line c.in_ok-line.head (armHeads.Guarded c.in-Guarded.guard) (logical_lines c.in_ok-line.rest.now) c.in_ok-line.ensures c.in-Guarded.is) (fails_below c.in_err-one-in-Guarded.field-0.0 _ _ _ c.in_err-one-in-Guarded.ensures)

pub arm-returns-in_ok-one-in-Guarded : goal.arm-returns-in_ok-one-in-Guarded
arm-returns-in_ok-one-in-Guarded t c =
    rw (node_is the_arm c.args.left c.args.level (logical_lines c.args.lines.now) (map decl_of c.in_ok-declarations.declarations.items) (logical_lines c.in_ok-declarations.rest.now) c.in_ok-declarations.ensures.read arm_head_of c.in_ok-line.line c.in_ok-line.head (armHeads.Guarded c.in-Guarded.guard) (logical_lines c.in_ok-line.rest.now) c.in_ok-line.ensures c.in-Guarded.is, c.in_ok-one-in-Guarded.ensures) (ap (λ (n : Node the_arm). Some (n, logical_lines c.in_ok-one-in-Guarded.rest.now)) (sym (arm_guarded c.in_ok-declarations.declarations c.in_ok-line.line c.in-Guarded.guard c.in_ok-one-in-Guarded.one)))

pub arm-returns-in_err-all-in-Variants : goal.arm-returns-in_err-all-in-Variants
arm-returns-in_err-all-in-Variants t c =
    let p = err_from_is_err_and c.from_residual-in_err-all-in-Variants.result c.from_residual-in_err-all-in-Variants.ensures.1 in
    rw (p.1, p.2, node_is the_arm c.args.left c.args.level (logical_lines c.args.lines.now) (map decl_of c.in_ok-declarations.declarations.items) (logical_lines c.in_ok-declarations.rest.now) c.in_ok-declarations.ensures.read arm_head_of c.in_ok-line.line c.in_ok-line.head (armHeads.Variants c.in-Variants.guard) (logical_lines c.in_ok-line.rest.now) c.in_ok-line.ensures c.in-Variants.is) (fails_below c.in_err-all-in-Variants.field-0.0 _ _ _ c.in_err-all-in-Variants.ensures)

pub arm-returns-in_ok-all-in-Variants : goal.arm-returns-in_ok-all-in-Variants
arm-returns-in_ok-all-in-Variants t c =
    rw (node_is the_arm c.args.left c.args.level (logical_lines c.args.lines.now) (map decl_of c.in_ok-declarations.declarations.items) (logical_lines c.in_ok-declarations.rest.now) c.in_ok-declarations.ensures.read arm_head_of c.in_ok-line.line c.in_ok-line.head (armHeads.Variants c.in-Variants.guard) (logical_lines c.in_ok-line.rest.now) c.in_ok-line.ensures c.in-Variants.is, c.in_ok-all-in-Variants.ensures) (ap (λ (n : Node the_arm). Some (n, logical_lines c.in_ok-all-in-Variants.rest.now)) (sym (arm_variants c.in_ok-declarations.declarations c.in_ok-line.line c.in-Variants.guard c.in_ok-all-in-Variants.all)))

pub arm-returns-in_err-guards-in-None : goal.arm-returns-in_err-guards-in-None
arm-returns-in_err-guards-in-None t c =
    let p = err_from_is_err_and c.from_residual-in_err-guards-in-None.result c.from_residual-in_err-guards-in-None.ensures.1 in
    rw (p.1, p.2, node_is the_arm c.args.left c.args.level (logical_lines c.args.lines.now) (map decl_of c.in_ok-declarations.declarations.items) (logical_lines c.in_ok-declarations.rest.now) c.in_ok-declarations.ensures.read arm_head_of c.in_ok-line.line c.in_ok-line.head (armHeads.Alt c.in-Alt.pri None) (logical_lines c.in_ok-line.rest.now) c.in_ok-line.ensures (c.in-Alt.is ∙ ap (λ (r : Option (Box Replicator Global)). armHeads.Alt c.in-Alt.pri r) c.in-None.is)) (fails_below c.in_err-guards-in-None.field-0.0 _ _ _ c.in_err-guards-in-None.ensures)

pub arm-returns-in_ok-guards-in-None : goal.arm-returns-in_ok-guards-in-None
arm-returns-in_ok-guards-in-None t c =
    rw (node_is the_arm c.args.left c.args.level (logical_lines c.args.lines.now) (map decl_of c.in_ok-declarations.declarations.items) (logical_lines c.in_ok-declarations.rest.now) c.in_ok-declarations.ensures.read arm_head_of c.in_ok-line.line c.in_ok-line.head (armHeads.Alt c.in-Alt.pri None) (logical_lines c.in_ok-line.rest.now) c.in_ok-line.ensures (c.in-Alt.is ∙ ap (λ (r : Option (Box Replicator Global)). armHeads.Alt c.in-Alt.pri r) c.in-None.is), c.in_ok-guards-in-None.ensures) (ap (λ (n : Node the_arm). Some (n, logical_lines c.in_ok-guards-in-None.rest.now)) (sym (arm_alt c.in_ok-declarations.declarations c.in_ok-line.line c.in-Alt.pri c.in_ok-guards-in-None.guards)))

pub arm-returns-in_err-guard-in-Some : goal.arm-returns-in_err-guard-in-Some
arm-returns-in_err-guard-in-Some t c =
    let p = err_from_is_err_and c.from_residual-in_err-guard-in-Some.result c.from_residual-in_err-guard-in-Some.ensures.1 in
    rw (p.1, p.2, node_is the_arm c.args.left c.args.level (logical_lines c.args.lines.now) (map decl_of c.in_ok-declarations.declarations.items) (logical_lines c.in_ok-declarations.rest.now) c.in_ok-declarations.ensures.read arm_head_of c.in_ok-line.line c.in_ok-line.head (armHeads.Alt c.in-Alt.pri (Some c.in-Some.index)) (logical_lines c.in_ok-line.rest.now) c.in_ok-line.ensures (c.in-Alt.is ∙ ap (λ (r : Option (Box Replicator Global)). armHeads.Alt c.in-Alt.pri r) c.in-Some.is)) (fails_below c.in_err-guard-in-Some.field-0.0 _ _ _ c.in_err-guard-in-Some.ensures)

pub arm-returns-in_ok-guard-in-Some-2 : goal.arm-returns-in_ok-guard-in-Some-2
arm-returns-in_ok-guard-in-Some-2 t c =
    rw (node_is the_arm c.args.left c.args.level (logical_lines c.args.lines.now) (map decl_of c.in_ok-declarations.declarations.items) (logical_lines c.in_ok-declarations.rest.now) c.in_ok-declarations.ensures.read arm_head_of c.in_ok-line.line c.in_ok-line.head (armHeads.Alt c.in-Alt.pri (Some c.in-Some.index)) (logical_lines c.in_ok-line.rest.now) c.in_ok-line.ensures (c.in-Alt.is ∙ ap (λ (r : Option (Box Replicator Global)). armHeads.Alt c.in-Alt.pri r) c.in-Some.is), c.in_ok-guard-in-Some.ensures) (ap (λ (n : Node the_arm). Some (n, logical_lines c.in_ok-guard-in-Some.rest.now)) (ap (λ (p : Rattle.occ_tree_grammar.specs.declared.tree.process.Arm.Arm). node {k = the_arm} (declared c.in_ok-declarations.declarations) c.in_ok-line.line (nested_alternation c.in-Alt.pri (Some (replicator_of c.in-Some.index.value))) (single_body (arm_of p))) (sym c.in_ok-guard-in-Some-2.ensures.ok) ∙ sym (arm_alt_for c.in_ok-declarations.declarations c.in_ok-line.line c.in-Alt.pri c.in-Some.index c.in_ok-guard-in-Some-2.guard)))

pub processes-returns-in_err-next : goal.processes-returns-in_err-next
processes-returns-in_err-next t c =
    let p = err_from_is_err_and c.from_residual.result c.from_residual.ensures.1 in
    rw (p.1, p.2) (ends c.in_err-next.field-0.0 c.loop.invariant c.loop-test.true c.in-Some.ensures c.in_err-next.ensures)

pub processes-loop-preserved : goal.processes-loop-preserved
processes-loop-preserved t c =
    let e : map process_of c.push.new.self.items ≡ map process_of c.loop.all.items ++ process_of c.in_ok-next.next ∷ [] = rw c.in_ok-push.ensures.items (map_push _ c.loop.all.items c.in_ok-next.next) in
    rw e (goes_on c.loop.invariant c.loop-test.true c.in-Some.ensures c.in_ok-next.ensures)

pub processes-returns : goal.processes-returns
processes-returns t c =
    elim c.loop-test.branch [
      | processes-else-loop-test w ↦ is_full c.loop.invariant w.loop-test.false
      | processes-then-loop-test+in_default w ↦ is_last c.loop.invariant w.loop-test.true w.in_default.ensures
    ]

pub choices-returns-in_err-next : goal.choices-returns-in_err-next
choices-returns-in_err-next t c =
    let p = err_from_is_err_and c.from_residual.result c.from_residual.ensures.1 in
    rw (p.1, p.2) (ends c.in_err-next.field-0.0 c.loop.invariant c.loop-test.true c.in-Some.ensures c.in_err-next.ensures)

pub choices-loop-preserved : goal.choices-loop-preserved
choices-loop-preserved t c =
    let e : map choice_of c.push.new.self.items ≡ map choice_of c.loop.all.items ++ choice_of c.in_ok-next.next ∷ [] = rw c.in_ok-push.ensures.items (map_push _ c.loop.all.items c.in_ok-next.next) in
    rw e (goes_on c.loop.invariant c.loop-test.true c.in-Some.ensures c.in_ok-next.ensures)

pub choices-returns : goal.choices-returns
choices-returns t c =
    elim c.loop-test.branch [
      | choices-else-loop-test w ↦ is_full c.loop.invariant w.loop-test.false
      | choices-then-loop-test+in_default w ↦ is_last c.loop.invariant w.loop-test.true w.in_default.ensures
    ]

pub arms-returns-in_err-next : goal.arms-returns-in_err-next
arms-returns-in_err-next t c =
    let p = err_from_is_err_and c.from_residual.result c.from_residual.ensures.1 in
    rw (p.1, p.2) (ends c.in_err-next.field-0.0 c.loop.invariant c.loop-test.true c.in-Some.ensures c.in_err-next.ensures)

pub arms-loop-preserved : goal.arms-loop-preserved
arms-loop-preserved t c =
    let e : map arm_of c.push.new.self.items ≡ map arm_of c.loop.all.items ++ arm_of c.in_ok-next.next ∷ [] = rw c.in_ok-push.ensures.items (map_push _ c.loop.all.items c.in_ok-next.next) in
    rw e (goes_on c.loop.invariant c.loop-test.true c.in-Some.ensures c.in_ok-next.ensures)

pub arms-returns : goal.arms-returns
arms-returns t c =
    elim c.loop-test.branch [
      | arms-else-loop-test w ↦ is_full c.loop.invariant w.loop-test.false
      | arms-then-loop-test+in_default w ↦ is_last c.loop.invariant w.loop-test.true w.in_default.ensures
    ]

pub selections-returns-in_err-declarations : goal.selections-returns-in_err-declarations
selections-returns-in_err-declarations t c =
    let p = err_from_is_err_and c.from_residual.result c.from_residual.ensures.1 in
    rw (p.1, p.2) (ends c.in_err-declarations.field-0.0 c.loop.invariant c.loop-test.true c.in-Some.ensures (no_declarations c.in_err-declarations.field-0.0 the_option c.args.left c.args.level (logical_lines c.in-Some.after.now) c.in_err-declarations.ensures.read))

pub selections-returns-in_err-line : goal.selections-returns-in_err-line
selections-returns-in_err-line t c =
    let p = err_from_is_err_and c.from_residual-in_err-line.result c.from_residual-in_err-line.ensures.1 in
    rw (p.1, p.2) (ends c.in_err-line.field-0.0 c.loop.invariant c.loop-test.true c.in-Some.ensures (no_line the_option c.args.left c.args.level (logical_lines c.in-Some.after.now) (map decl_of c.in_ok-declarations.declarations.items) (logical_lines c.in_ok-declarations.after.now) c.in_ok-declarations.ensures.read c.in_err-line.field-0.0 c.in_err-line.ensures))

pub selections-returns-in_err-body : goal.selections-returns-in_err-body
selections-returns-in_err-body t c =
    let p = err_from_is_err_and c.from_residual-in_err-body.result c.from_residual-in_err-body.ensures.1 in
    rw (p.1, p.2) (ends c.in_err-body.field-0.0 c.loop.invariant c.loop-test.true c.in-Some.ensures (rw (node_is the_option c.args.left c.args.level (logical_lines c.in-Some.after.now) (map decl_of c.in_ok-declarations.declarations.items) (logical_lines c.in_ok-declarations.after.now) c.in_ok-declarations.ensures.read option_head_of c.in_ok-line.line c.in_ok-line.head c.in_ok-line.head (logical_lines c.in_ok-line.after.now) c.in_ok-line.ensures refl) (fails_below c.in_err-body.field-0.0 _ _ _ c.in_err-body.ensures)))

pub selections-loop-preserved : goal.selections-loop-preserved
selections-loop-preserved t c =
    let one : node_at (most_levels + 1) c.args.left c.args.level the_option (logical_lines c.in-Some.after.now) ≡ Some (selection_of c.selected.result, logical_lines c.in_ok-body.after.now) = rw (node_is the_option c.args.left c.args.level (logical_lines c.in-Some.after.now) (map decl_of c.in_ok-declarations.declarations.items) (logical_lines c.in_ok-declarations.after.now) c.in_ok-declarations.ensures.read option_head_of c.in_ok-line.line c.in_ok-line.head c.in_ok-line.head (logical_lines c.in_ok-line.after.now) c.in_ok-line.ensures refl, c.in_ok-body.ensures) (ap (λ (n : Node the_option). Some (n, logical_lines c.in_ok-body.after.now)) (sym c.selected.ensures)) in
    let e : map selection_of c.push.new.self.items ≡ map selection_of c.loop.all.items ++ selection_of c.selected.result ∷ [] = rw c.in_ok-push.ensures.items (map_push _ c.loop.all.items c.selected.result) in
    rw e (goes_on c.loop.invariant c.loop-test.true c.in-Some.ensures one)

pub selections-returns : goal.selections-returns
selections-returns t c =
    elim c.loop-test.branch [
      | selections-else-loop-test w ↦ is_full c.loop.invariant w.loop-test.false
      | selections-then-loop-test+in_default w ↦ is_last c.loop.invariant w.loop-test.true w.in_default.ensures
    ]

pub variants-returns-in_err-declarations : goal.variants-returns-in_err-declarations
variants-returns-in_err-declarations t c =
    let p = err_from_is_err_and c.from_residual.result c.from_residual.ensures.1 in
    rw (p.1, p.2) (ends c.in_err-declarations.field-0.0 c.loop.invariant c.loop-test.true c.in-Some.ensures (no_declarations c.in_err-declarations.field-0.0 the_variant c.args.left c.args.level (logical_lines c.in-Some.after.now) c.in_err-declarations.ensures.read))

pub variants-returns-in_err-line : goal.variants-returns-in_err-line
variants-returns-in_err-line t c =
    let p = err_from_is_err_and c.from_residual-in_err-line.result c.from_residual-in_err-line.ensures.1 in
    rw (p.1, p.2) (ends c.in_err-line.field-0.0 c.loop.invariant c.loop-test.true c.in-Some.ensures (no_line the_variant c.args.left c.args.level (logical_lines c.in-Some.after.now) (map decl_of c.in_ok-declarations.declarations.items) (logical_lines c.in_ok-declarations.after.now) c.in_ok-declarations.ensures.read c.in_err-line.field-0.0 c.in_err-line.ensures))

pub variants-returns-in_err-body : goal.variants-returns-in_err-body
variants-returns-in_err-body t c =
    let p = err_from_is_err_and c.from_residual-in_err-body.result c.from_residual-in_err-body.ensures.1 in
    rw (p.1, p.2) (ends c.in_err-body.field-0.0 c.loop.invariant c.loop-test.true c.in-Some.ensures (rw (node_is the_variant c.args.left c.args.level (logical_lines c.in-Some.after.now) (map decl_of c.in_ok-declarations.declarations.items) (logical_lines c.in_ok-declarations.after.now) c.in_ok-declarations.ensures.read variant_head_of c.in_ok-line.line c.in_ok-line.head c.in_ok-line.head (logical_lines c.in_ok-line.after.now) c.in_ok-line.ensures refl) (fails_below c.in_err-body.field-0.0 _ _ _ c.in_err-body.ensures)))

pub variants-loop-preserved : goal.variants-loop-preserved
variants-loop-preserved t c =
    let one : node_at (most_levels + 1) c.args.left c.args.level the_variant (logical_lines c.in-Some.after.now) ≡ Some (variant_of c.tagged.result, logical_lines c.in_ok-body.after.now) = rw (node_is the_variant c.args.left c.args.level (logical_lines c.in-Some.after.now) (map decl_of c.in_ok-declarations.declarations.items) (logical_lines c.in_ok-declarations.after.now) c.in_ok-declarations.ensures.read variant_head_of c.in_ok-line.line c.in_ok-line.head c.in_ok-line.head (logical_lines c.in_ok-line.after.now) c.in_ok-line.ensures refl, c.in_ok-body.ensures) (ap (λ (n : Node the_variant). Some (n, logical_lines c.in_ok-body.after.now)) (sym c.tagged.ensures)) in
    let e : map variant_of c.push.new.self.items ≡ map variant_of c.loop.all.items ++ variant_of c.tagged.result ∷ [] = rw c.in_ok-push.ensures.items (map_push _ c.loop.all.items c.tagged.result) in
    rw e (goes_on c.loop.invariant c.loop-test.true c.in-Some.ensures one)

pub variants-returns : goal.variants-returns
variants-returns t c =
    elim c.loop-test.branch [
      | variants-else-loop-test w ↦ is_full c.loop.invariant w.loop-test.false
      | variants-then-loop-test+in_default w ↦ is_last c.loop.invariant w.loop-test.true w.in_default.ensures
    ]

pub declarations-returns-then-left-eq0-clause-read : goal.declarations-returns-then-left-eq0-clause-read
declarations-returns-then-left-eq0-clause-read t c =
    fails_none c.too_deep.result _ (none_begun c.args.left c.args.level (logical_lines c.args.lines.now) c.if-left-eq0.true)

pub declarations-returns-in_err-next-clause-read : goal.declarations-returns-in_err-next-clause-read
declarations-returns-in_err-next-clause-read t c =
    let p = err_from_is_err_and c.from_residual.result c.from_residual.ensures.1 in
    rw (p.1, p.2, begun_is c.args.left c.args.level (logical_lines c.args.lines.now) c.if-left-eq0.false) (ends c.in_err-next.field-0.0 c.loop.invariant c.loop-test.true c.in-Some.ensures c.in_err-next.ensures)

pub declarations-loop-preserved : goal.declarations-loop-preserved
declarations-loop-preserved t c =
    let e : map decl_of c.push.new.self.items ≡ map decl_of c.loop.all.items ++ decl_of c.in_ok-next.next ∷ [] = rw c.in_ok-push.ensures.items (map_push _ c.loop.all.items c.in_ok-next.next) in
    rw e (goes_on c.loop.invariant c.loop-test.true c.in-Some.ensures c.in_ok-next.ensures)

pub declarations-returns-clause-read : goal.declarations-returns-clause-read
declarations-returns-clause-read t c =
    rw (begun_is c.args.left c.args.level (logical_lines c.args.lines.now) c.if-left-eq0.false) (elim c.loop-test.branch [
      | declarations-else-loop-test w ↦ is_full c.loop.invariant w.loop-test.false
      | declarations-then-loop-test+in_default w ↦ is_last c.loop.invariant w.loop-test.true w.in_default.ensures
    ])

pub declaration-returns-in_err-opened : goal.declaration-returns-in_err-opened
declaration-returns-in_err-opened t c =
    let p = err_from_is_err_and c.from_residual.result c.from_residual.ensures.1 in
    rw (p.1, p.2) (no_declaration c.args.left c.args.level (node_at (most_levels + 1) c.args.left (c.args.level + 1) the_process) c.in_err-opened.field-0.0 (logical_lines c.args.lines.now) c.in_err-opened.ensures)

pub declaration-returns-in-Whole : goal.declaration-returns-in-Whole
declaration-returns-in-Whole t c =
    rw (declaration_is c.args.left c.args.level (node_at (most_levels + 1) c.args.left (c.args.level + 1) the_process) (logical_lines c.args.lines.now) c.in_ok-opened.opened (declarations.Whole c.in-Whole.declaration) (logical_lines c.in_ok-opened.rest.now) c.in_ok-opened.ensures c.in-Whole.is) refl

pub declaration-returns-in_err-body-in-Proc : goal.declaration-returns-in_err-body-in-Proc
declaration-returns-in_err-body-in-Proc t c =
    let p = err_from_is_err_and c.from_residual-in_err-body-in-Proc.result c.from_residual-in_err-body-in-Proc.ensures.1 in
    rw (p.1, p.2, declaration_is c.args.left c.args.level (node_at (most_levels + 1) c.args.left (c.args.level + 1) the_process) (logical_lines c.args.lines.now) c.in_ok-opened.opened (declarations.Proc c.in-Proc.line c.in-Proc.name c.in-Proc.formals) (logical_lines c.in_ok-opened.rest.now) c.in_ok-opened.ensures c.in-Proc.is) (fails_then c.in_err-body-in-Proc.field-0.0 _ _ c.in_err-body-in-Proc.ensures)

pub declaration-returns-in_ok-body-in-Proc : goal.declaration-returns-in_ok-body-in-Proc
declaration-returns-in_ok-body-in-Proc t c =
    rw (declaration_is c.args.left c.args.level (node_at (most_levels + 1) c.args.left (c.args.level + 1) the_process) (logical_lines c.args.lines.now) c.in_ok-opened.opened (declarations.Proc c.in-Proc.line c.in-Proc.name c.in-Proc.formals) (logical_lines c.in_ok-opened.rest.now) c.in_ok-opened.ensures c.in-Proc.is, c.in_ok-body-in-Proc.ensures) c.procedure_ended.ensures
