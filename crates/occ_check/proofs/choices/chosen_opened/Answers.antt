use Rattle.std.proofs.Common.{arith, rules, ◌≡◌, ◌∙◌, ◌+◌, Some, ap, map, reverse, sym}
use Rattle.occ_tree_grammar.specs.Expressions.Trees.{expression_of as tree_of}
use Rattle.occ_tree_grammar.specs.Lines.Views.{replicator_of as replicator_tree}
use Rattle.occ_tree_grammar.specs.Processes.Trees.{more_nodes, no_node, nodes}
use Rattle.occ_tree_grammar.specs.Processes.Views.{choice_of, process_of}
use Rattle.occ_tree_grammar.specs.declared.tree.expr.Expr.{Expr}
use Rattle.occ_tree_grammar.specs.declared.tree.line.Replicator.{Replicator}
use Rattle.occ_term.specs.Terms as T
use Rattle.occ_term.specs.View.{declarations_of, expression_of, replicator_of}
use Rattle.occ_check_meaning.specs.Actions.{choices_behind}
use Rattle.occ_check_meaning.specs.Declarations.{indexed}
use Rattle.occ_check_meaning.specs.Performing.{each_of_choices, nested}
use Rattle.occ_check_meaning.specs.Recursion.{all_choices, choice_unfolded, unfolded}
use Rattle.occ_check_meaning.specs.Scope.{names_of}
use Rattle.occ_check_meaning.specs.Meant.{meant}
use Rattle.occ_check_lines.specs.View.{Refuses, scope_in}
use Rattle.occ_check_lines.proofs.Refusals.{refused_with}
use Rattle.occ_check.specs.Opened.{put}
use Rattle.occ_check.specs.OneLine.{tested}
use Rattle.occ_check.specs.Progress.{counted, meant_at, weight_at}
use Rattle.occ_check.specs.Choices.{choosing, choice_size}
use Rattle.occ_check.specs.Weights.{node_size, nodes_size}
use Rattle.occ_check.proofs.ChoiceLists.{single_choice, when_not_tested, when_opens}
use Rattle.occ_check.proofs.OpenedParts.{single_size, each_part, put_put}
use Rattle.occ_check.proofs.Nesting.{nested_there}
use Rattle.occ_check.proofs.choices.chosen_opened.Goals as goal

pub returns-in_err-test-in-When-clause-opens : goal.returns-in_err-test-in-When-clause-opens
returns-in_err-test-in-When-clause-opens c =
    let sc = meant_at c.args.unfolder.now c.args.here.at in
    let this : tested (names_of sc) c.in-When.line c.args.here.depth (tree_of c.in-When.test.value) (counted c.args.unfolder.now) ≡ tested (names_of sc) c.in-When.line c.args.here.depth (tree_of c.deref.result.now) (counted c.args.unfolder.now) =
    ap (λ (e : Expr). tested (names_of sc) c.in-When.line c.args.here.depth (tree_of e) (counted c.args.unfolder.now)) (sym c.deref.ensures) in
    let refused : Refuses c.in_err-test-in-When.field-0.0 (put (choices_behind (declarations_of c.args.heads)) (choosing c.args.choice.now sc c.args.here.depth (counted c.args.unfolder.now))) =
    refused_with c.in_err-test-in-When.field-0.0 _ _
    (λ none. ap (λ x. put (choices_behind (declarations_of c.args.heads)) (choosing x sc c.args.here.depth (counted c.args.unfolder.now))) c.in-When.is
    ∙ ap (put (choices_behind (declarations_of c.args.heads))) (when_not_tested c.in-When.line (tree_of c.in-When.test.value) (unfolded (process_of c.in-When.body)) sc c.args.here.depth (counted c.args.unfolder.now) (this ∙ none)))
    c.in_err-test-in-When.ensures.tested in
    search rules

pub returns-in_ok-test-in-When-clause-opens : goal.returns-in_ok-test-in-When-clause-opens
returns-in_ok-test-in-When-clause-opens c =
    let sc = meant_at c.args.unfolder.now c.args.here.at in
    let test = expression_of c.in_ok-test-in-When.test in
    ap (λ x. put (choices_behind (declarations_of c.args.heads)) (choosing x sc c.args.here.depth (counted c.args.unfolder.now))) c.in-When.is
    ∙ ap (put (choices_behind (declarations_of c.args.heads)))
    (when_opens c.in-When.line (tree_of c.in-When.test.value) (unfolded (process_of c.in-When.body)) sc c.args.here.depth (counted c.args.unfolder.now) test (counted c.tested.new.self)
    (ap (λ (e : Expr). tested (names_of sc) c.in-When.line c.args.here.depth (tree_of e) (counted c.args.unfolder.now)) (sym c.deref.ensures) ∙ c.in_ok-test-in-When.ensures.tested))
    ∙ put_put (choices_behind (declarations_of c.args.heads)) (λ t. T.or_choice test t T.no_choices) (unfolded (process_of c.in-When.body) sc (c.args.here.depth + 1) (counted c.tested.new.self))
    ∙ ap (λ f. put (λ t. choices_behind (declarations_of c.args.heads) (T.or_choice test t T.no_choices)) (unfolded (process_of c.in-When.body) (meant (scope_in (reverse f.blocks.items) c.args.here.at)) (c.args.here.depth + 1) (counted c.tested.new.self)))
    (sym c.in_ok-test-in-When.ensures.kept)

pub returns-in_ok-depth-in-InnerIf-clause-opens : goal.returns-in_ok-depth-in-InnerIf-clause-opens
returns-in_ok-depth-in-InnerIf-clause-opens c =
    let sc = meant_at c.args.unfolder.now c.args.here.at in
    let behind = choices_behind (declarations_of c.args.heads) in
    ap (λ x. put behind (choosing x sc c.args.here.depth (counted c.args.unfolder.now))) c.in-InnerIf.is
    ∙ ap (λ ns. put behind (nested (all_choices ns) sc c.args.here.depth (counted c.args.unfolder.now))) (sym c.listed_choices.ensures)
    ∙ ap (put behind) (nested_there (all_choices (nodes (map choice_of c.listed_choices.result.now))) sc c.args.here.depth (counted c.args.unfolder.now) c.in_ok-depth-in-InnerIf.depth c.in_ok-depth-in-InnerIf.ensures.deep)

pub returns-in_ok-over-in-InnerIfFor-clause-opens : goal.returns-in_ok-over-in-InnerIfFor-clause-opens
returns-in_ok-over-in-InnerIfFor-clause-opens c =
    let sc = meant_at c.args.unfolder.now c.args.here.at in
    let behind = choices_behind (declarations_of c.args.heads) in
    let p = choice_of c.in-InnerIfFor.choice.value in
    let r = replicator_tree c.in-InnerIfFor.replicator.value in
    let deep = c.in_ok-depth-in-InnerIfFor.depth in
    let over = replicator_of c.in_ok-over-in-InnerIfFor.over in
    let inside = meant_at c.indexed.new.self c.in_ok-over-in-InnerIfFor.at in
    let m = counted c.indexed.new.self in
    let i = c.in_ok-over-in-InnerIfFor.ensures.indexed in
    let alone : nodes (map choice_of c.one_choice.result.now) ≡ more_nodes (choice_of c.in-InnerIfFor.choice.value) no_node = c.one_choice.ensures ∙ ap (λ x. more_nodes (choice_of x) no_node) c.deref-in-InnerIfFor-2.ensures in
    let there : indexed (names_of sc) c.in-InnerIfFor.line deep r (counted c.args.unfolder.now) ≡ Some i.0 =
    ap (λ (x : Replicator). indexed (names_of sc) c.in-InnerIfFor.line deep (replicator_tree x) (counted c.args.unfolder.now)) (sym c.deref-in-InnerIfFor.ensures) ∙ i.1 in
    ap (λ x. put behind (choosing x sc c.args.here.depth (counted c.args.unfolder.now))) c.in-InnerIfFor.is
    ∙ ap (put behind) (nested_there (each_of_choices c.in-InnerIfFor.line r (choice_unfolded p)) sc c.args.here.depth (counted c.args.unfolder.now) deep c.in_ok-depth-in-InnerIfFor.ensures.deep)
    ∙ ap (put behind) (each_part (choice_unfolded p) (λ q xs. T.each_choice q xs T.no_choices) c.in-InnerIfFor.line r sc deep (counted c.args.unfolder.now) i.0 there over inside m i.2 i.3 i.4)
    ∙ put_put behind (λ xs. T.each_choice over xs T.no_choices) (choice_unfolded p inside deep m)
    ∙ ap (put (λ xs. behind (T.each_choice over xs T.no_choices))) (sym (single_choice p inside deep m))
    ∙ ap (λ ns. put (λ xs. behind (T.each_choice over xs T.no_choices)) (all_choices ns inside deep m)) (sym alone)

pub returns-in_ok-over-in-InnerIfFor-clause-weight : goal.returns-in_ok-over-in-InnerIfFor-clause-weight
returns-in_ok-over-in-InnerIfFor-clause-weight c =
    let same : weight_at c.indexed.new.self c.in_ok-over-in-InnerIfFor.at ≡ weight_at c.args.unfolder.now c.args.here.at = c.in_ok-over-in-InnerIfFor.ensures.weight in
    let alone : nodes (map choice_of c.one_choice.result.now) ≡ more_nodes (choice_of c.in-InnerIfFor.choice.value) no_node = c.one_choice.ensures ∙ ap (λ x. more_nodes (choice_of x) no_node) c.deref-in-InnerIfFor-2.ensures in
    let one : nodes_size (nodes (map choice_of c.one_choice.result.now)) ≡ node_size (choice_of c.in-InnerIfFor.choice.value) + 1 = ap nodes_size alone ∙ single_size (choice_of c.in-InnerIfFor.choice.value) in
    let size : choice_size c.args.choice.now ≡ node_size (choice_of c.in-InnerIfFor.choice.value) + 1 = ap choice_size c.in-InnerIfFor.is in
    omega (arith, same, one, size)
