use Rattle.std.proofs.Common.{arith, rules, ◌≡◌, ◌∙◌, ◌+◌, Some, [], ap, map, option_map, reverse, subst, sym}
use Rattle.occ_tree_grammar.specs.Expressions.Trees.{expression_of as tree_of}
use Rattle.occ_tree_grammar.specs.Lines.Views as lines
use Rattle.occ_tree_grammar.specs.Lines.Views.{replicator_of as replicator_tree}
use Rattle.occ_tree_grammar.specs.Processes.Trees.{more_nodes, no_node, nodes}
use Rattle.occ_tree_grammar.specs.Processes.Views.{arm_of, held_variants, variant_of}
use Rattle.occ_tree_grammar.specs.declared.tree.line.Replicator.{Replicator}
use Rattle.occ_tree_grammar.specs.declared.tree.line.VariantGuard.{VariantGuard}
use Rattle.occ_tree_grammar.specs.declared.tree.process.Arm.TheBlock.{hidden-the_row-Variant-1}
use Rattle.occ_term.specs.Terms as T
use Rattle.occ_term.specs.View.{declarations_of, place_of, replicator_of, test_of as boolean_of}
use Rattle.occ_check_meaning.specs.Actions.{arms_behind}
use Rattle.occ_check_meaning.specs.Declarations.{indexed}
use Rattle.occ_check_meaning.specs.Performing.{each_of_arms, nested}
use Rattle.occ_check_meaning.specs.Recursion.{all_arms, all_variants, arm_unfolded}
use Rattle.occ_check_meaning.specs.Scope.{names_of}
use Rattle.occ_check_meaning.specs.Meant.{meant}
use Rattle.occ_check_lines.specs.View.{Refuses, scope_in}
use Rattle.occ_check_lines.proofs.Refusals.{refused_with}
use Rattle.occ_check.specs.Opened.{put}
use Rattle.occ_check.specs.Guards.{guarding_variants}
use Rattle.occ_check.specs.Progress.{counted, meant_at, weight_at}
use Rattle.occ_check.specs.Arms.{arm_size, listening}
use Rattle.occ_check.specs.Weights.{node_size, nodes_size}
use Rattle.occ_check.proofs.ArmLists.{single_arm, variants_not_guarded, variants_open}
use Rattle.occ_check.proofs.OpenedParts.{single_size, each_part, put_put}
use Rattle.occ_check.proofs.Nesting.{nested_there}
use Rattle.occ_check.proofs.arms.listening_opened.Goals as goal

pub returns-in_err-test-in-OnVariant-clause-opens : goal.returns-in_err-test-in-OnVariant-clause-opens
returns-in_err-test-in-OnVariant-clause-opens c =
    let sc = meant_at c.args.unfolder.now c.args.here.at in
    let refused : Refuses c.in_err-test-in-OnVariant.field-0.0 (put (arms_behind (declarations_of c.args.heads)) (listening c.args.arm.now sc c.args.here.depth (counted c.args.unfolder.now))) =
    refused_with c.in_err-test-in-OnVariant.field-0.0
    (guarding_variants (names_of sc) c.in-OnVariant.line c.args.here.depth (option_map tree_of c.in-OnVariant.guard.value.condition) (lines.var_of c.in-OnVariant.guard.value.channel) (counted c.args.unfolder.now)) _
    (λ none. ap (λ a. put (arms_behind (declarations_of c.args.heads)) (listening a sc c.args.here.depth (counted c.args.unfolder.now))) c.in-OnVariant.is
    ∙ ap (put (arms_behind (declarations_of c.args.heads))) (variants_not_guarded c.in-OnVariant.line (option_map tree_of c.in-OnVariant.guard.value.condition) (lines.var_of c.in-OnVariant.guard.value.channel)
    (λ p. all_variants (held_variants (hidden-the_row-Variant-1 c.in-OnVariant.variants)) p []) sc c.args.here.depth (counted c.args.unfolder.now) none))
    (subst (λ (g : VariantGuard). Refuses c.in_err-test-in-OnVariant.field-0.0 (guarding_variants (names_of sc) c.in-OnVariant.line c.args.here.depth (option_map tree_of g.condition) (lines.var_of g.channel) (counted c.args.unfolder.now)))
    c.deref-in-OnVariant.ensures c.in_err-test-in-OnVariant.ensures.guard) in
    search rules

pub returns-in_ok-test-in-OnVariant-clause-opens : goal.returns-in_ok-test-in-OnVariant-clause-opens
returns-in_ok-test-in-OnVariant-clause-opens c =
    let sc = meant_at c.args.unfolder.now c.args.here.at in
    let behind = arms_behind (declarations_of c.args.heads) in
    let test = boolean_of c.in_ok-test-in-OnVariant.test in
    let place = place_of c.in_ok-test-in-OnVariant.channel in
    let p = c.in_ok-test-in-OnVariant.protocol in
    let m = counted c.guarding_variants_at.new.unfolder in
    let deep = c.args.here.depth + 1 in
    let held = held_variants (hidden-the_row-Variant-1 c.in-OnVariant.variants) in
    ap (λ a. put behind (listening a sc c.args.here.depth (counted c.args.unfolder.now))) c.in-OnVariant.is
    ∙ ap (put behind)
    (variants_open c.in-OnVariant.line (option_map tree_of c.in-OnVariant.guard.value.condition) (lines.var_of c.in-OnVariant.guard.value.channel) (λ q. all_variants held q []) sc c.args.here.depth (counted c.args.unfolder.now) (test, (p, place)) m
    (ap (λ (g : VariantGuard). guarding_variants (names_of sc) c.in-OnVariant.line c.args.here.depth (option_map tree_of g.condition) (lines.var_of g.channel) (counted c.args.unfolder.now)) (sym c.deref-in-OnVariant.ensures)
    ∙ c.in_ok-test-in-OnVariant.ensures.guard))
    ∙ put_put behind (λ vs. T.input_arm test place (T.Tagged vs) T.no_arms) (all_variants held p [] sc deep m)
    ∙ ap (λ ns. put (λ vs. behind (T.input_arm test place (T.Tagged vs) T.no_arms)) (all_variants ns p [] sc deep m)) (sym c.listed_variants-variants.ensures)
    ∙ ap (λ f. put (λ vs. behind (T.input_arm test place (T.Tagged vs) T.no_arms)) (all_variants (nodes (map variant_of c.listed_variants-variants.result.now)) p [] (meant (scope_in (reverse f.blocks.items) c.args.here.at)) deep m))
    (sym c.in_ok-test-in-OnVariant.ensures.kept)

pub returns-in_ok-depth-in-InnerAlt-clause-opens : goal.returns-in_ok-depth-in-InnerAlt-clause-opens
returns-in_ok-depth-in-InnerAlt-clause-opens c =
    let sc = meant_at c.args.unfolder.now c.args.here.at in
    let behind = arms_behind (declarations_of c.args.heads) in
    ap (λ x. put behind (listening x sc c.args.here.depth (counted c.args.unfolder.now))) c.in-InnerAlt.is
    ∙ ap (λ ns. put behind (nested (all_arms ns) sc c.args.here.depth (counted c.args.unfolder.now))) (sym c.listed_arms.ensures)
    ∙ ap (put behind) (nested_there (all_arms (nodes (map arm_of c.listed_arms.result.now))) sc c.args.here.depth (counted c.args.unfolder.now) c.in_ok-depth-in-InnerAlt.depth c.in_ok-depth-in-InnerAlt.ensures.deep)

pub returns-in_ok-over-in-InnerAltFor-clause-opens : goal.returns-in_ok-over-in-InnerAltFor-clause-opens
returns-in_ok-over-in-InnerAltFor-clause-opens c =
    let sc = meant_at c.args.unfolder.now c.args.here.at in
    let behind = arms_behind (declarations_of c.args.heads) in
    let p = arm_of c.in-InnerAltFor.arm.value in
    let r = replicator_tree c.in-InnerAltFor.replicator.value in
    let deep = c.in_ok-depth-in-InnerAltFor.depth in
    let over = replicator_of c.in_ok-over-in-InnerAltFor.over in
    let inside = meant_at c.indexed.new.self c.in_ok-over-in-InnerAltFor.at in
    let m = counted c.indexed.new.self in
    let i = c.in_ok-over-in-InnerAltFor.ensures.indexed in
    let alone : nodes (map arm_of c.one_arm.result.now) ≡ more_nodes (arm_of c.in-InnerAltFor.arm.value) no_node = c.one_arm.ensures ∙ ap (λ x. more_nodes (arm_of x) no_node) c.deref-in-InnerAltFor-2.ensures in
    let there : indexed (names_of sc) c.in-InnerAltFor.line deep r (counted c.args.unfolder.now) ≡ Some i.0 =
    ap (λ (x : Replicator). indexed (names_of sc) c.in-InnerAltFor.line deep (replicator_tree x) (counted c.args.unfolder.now)) (sym c.deref-in-InnerAltFor.ensures) ∙ i.1 in
    ap (λ x. put behind (listening x sc c.args.here.depth (counted c.args.unfolder.now))) c.in-InnerAltFor.is
    ∙ ap (put behind) (nested_there (each_of_arms c.in-InnerAltFor.line r (arm_unfolded p)) sc c.args.here.depth (counted c.args.unfolder.now) deep c.in_ok-depth-in-InnerAltFor.ensures.deep)
    ∙ ap (put behind) (each_part (arm_unfolded p) (λ q xs. T.each_arm q xs T.no_arms) c.in-InnerAltFor.line r sc deep (counted c.args.unfolder.now) i.0 there over inside m i.2 i.3 i.4)
    ∙ put_put behind (λ xs. T.each_arm over xs T.no_arms) (arm_unfolded p inside deep m)
    ∙ ap (put (λ xs. behind (T.each_arm over xs T.no_arms))) (sym (single_arm p inside deep m))
    ∙ ap (λ ns. put (λ xs. behind (T.each_arm over xs T.no_arms)) (all_arms ns inside deep m)) (sym alone)

pub returns-in_ok-over-in-InnerAltFor-clause-weight : goal.returns-in_ok-over-in-InnerAltFor-clause-weight
returns-in_ok-over-in-InnerAltFor-clause-weight c =
    let same : weight_at c.indexed.new.self c.in_ok-over-in-InnerAltFor.at ≡ weight_at c.args.unfolder.now c.args.here.at = c.in_ok-over-in-InnerAltFor.ensures.weight in
    let alone : nodes (map arm_of c.one_arm.result.now) ≡ more_nodes (arm_of c.in-InnerAltFor.arm.value) no_node = c.one_arm.ensures ∙ ap (λ x. more_nodes (arm_of x) no_node) c.deref-in-InnerAltFor-2.ensures in
    let one : nodes_size (nodes (map arm_of c.one_arm.result.now)) ≡ node_size (arm_of c.in-InnerAltFor.arm.value) + 1 = ap nodes_size alone ∙ single_size (arm_of c.in-InnerAltFor.arm.value) in
    let size : arm_size c.args.arm.now ≡ node_size (arm_of c.in-InnerAltFor.arm.value) + 1 = ap arm_size c.in-InnerAltFor.is in
    omega (arith, same, one, size)
