-- The arms, variants, choices and options that the code has read, seen by their views.
use Rattle.std.proofs.Common.{◌≡◌, List, refl, ap, map, ◌∙◌, Vec, Global}
use Rattle.occ_tree_grammar.specs.declared.tree.process.Stmt.{Row_of-Arm, end_of-Arm, more_of-Arm, items-the_row-Arm, items_hidden-the_row-Arm-2, Row_of-Variant, end_of-Variant, more_of-Variant, items-the_row-Variant, items_hidden-the_row-Variant-1, Row_of-Choice, end_of-Choice, more_of-Choice, items-the_row-Choice, items_hidden-the_row-Choice-3, Row_of-Selection, end_of-Selection, more_of-Selection, items-the_row-Selection, items_hidden-the_row-Selection-5}
use Rattle.occ_tree_grammar.specs.declared.tree.process.Arm.{Arm}
use Rattle.occ_tree_grammar.specs.declared.tree.process.Variant.{Variant}
use Rattle.occ_tree_grammar.specs.declared.tree.process.Arm.TheBlock.{hidden-the_row-Arm-2, hidden-the_row-Variant-1, hidden-the_row-Choice-3, hidden-the_row-Selection-5}
use Rattle.occ_tree_grammar.specs.Processes.Trees.{more_nodes, nodes}
use Rattle.occ_tree_grammar.specs.Processes.Views.{arm_of, variant_of, held_arms, held_variants, choice_of, selection_of, held_choices, held_selections}
use Rattle.occ_tree_grammar.specs.declared.tree.process.Choice.{Choice}
use Rattle.occ_tree_grammar.specs.declared.tree.process.Selection.{Selection}

held_arms_are : {m : _} (k : Row_of-Arm m) → held_arms k ≡ nodes (map arm_of (items-the_row-Arm m k))
unfolding arm_of held_arms
held_arms_are end_of-Arm = refl
held_arms_are (more_of-Arm x k) = ap (more_nodes (arm_of x)) (held_arms_are k)

pub arms_made : (v : Vec Arm Global) → held_arms (hidden-the_row-Arm-2 v) ≡ nodes (map arm_of v.items)
arms_made v = held_arms_are (hidden-the_row-Arm-2 v) ∙ ap (λ (xs : List Arm). nodes (map arm_of xs)) (items_hidden-the_row-Arm-2 v)

held_variants_are : {m : _} (k : Row_of-Variant m) → held_variants k ≡ nodes (map variant_of (items-the_row-Variant m k))
unfolding variant_of held_variants
held_variants_are end_of-Variant = refl
held_variants_are (more_of-Variant x k) = ap (more_nodes (variant_of x)) (held_variants_are k)

pub variants_made : (v : Vec Variant Global) → held_variants (hidden-the_row-Variant-1 v) ≡ nodes (map variant_of v.items)
variants_made v = held_variants_are (hidden-the_row-Variant-1 v) ∙ ap (λ (xs : List Variant). nodes (map variant_of xs)) (items_hidden-the_row-Variant-1 v)

held_choices_are : {m : _} (k : Row_of-Choice m) → held_choices k ≡ nodes (map choice_of (items-the_row-Choice m k))
unfolding choice_of held_choices
held_choices_are end_of-Choice = refl
held_choices_are (more_of-Choice x k) = ap (more_nodes (choice_of x)) (held_choices_are k)

pub choices_made : (v : Vec Choice Global) → held_choices (hidden-the_row-Choice-3 v) ≡ nodes (map choice_of v.items)
choices_made v = held_choices_are (hidden-the_row-Choice-3 v) ∙ ap (λ (xs : List Choice). nodes (map choice_of xs)) (items_hidden-the_row-Choice-3 v)

held_selections_are : {m : _} (k : Row_of-Selection m) → held_selections k ≡ nodes (map selection_of (items-the_row-Selection m k))
unfolding selection_of held_selections
held_selections_are end_of-Selection = refl
held_selections_are (more_of-Selection x k) = ap (more_nodes (selection_of x)) (held_selections_are k)

pub selections_made : (v : Vec Selection Global) → held_selections (hidden-the_row-Selection-5 v) ≡ nodes (map selection_of v.items)
selections_made v = held_selections_are (hidden-the_row-Selection-5 v) ∙ ap (λ (xs : List Selection). nodes (map selection_of xs)) (items_hidden-the_row-Selection-5 v)
