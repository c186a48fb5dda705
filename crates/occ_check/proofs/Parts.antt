-- The declarations that the code has read, seen by their views.
use Rattle.std.proofs.Common.{◌≡◌, ◌∙◌, List, ap, map, refl, Vec, Global}
use Rattle.occ_tree_grammar.specs.Processes.Trees.{more_decls, decls}
use Rattle.occ_tree_grammar.specs.Processes.Views.{decl_of, held_decls}
use Rattle.occ_tree_grammar.specs.declared.tree.process.Choice.{Row_of-Decl, end_of-Decl, more_of-Decl, items-the_row-Decl, items_hidden-the_row-Decl-0}
use Rattle.occ_tree_grammar.specs.declared.tree.process.Arm.TheBlock.{hidden-the_row-Decl-0}
use Rattle.occ_tree_grammar.specs.declared.tree.process.Decl.{Decl}

held_decls_are : {m : _} (k : Row_of-Decl m) → held_decls k ≡ decls (map decl_of (items-the_row-Decl m k))
unfolding decl_of held_decls
held_decls_are end_of-Decl = refl
held_decls_are (more_of-Decl x k) = ap (more_decls (decl_of x)) (held_decls_are k)

pub decls_made : (v : Vec Decl Global) → held_decls (hidden-the_row-Decl-0 v) ≡ decls (map decl_of v.items)
decls_made v = held_decls_are (hidden-the_row-Decl-0 v) ∙ ap (λ (xs : List Decl). decls (map decl_of xs)) (items_hidden-the_row-Decl-0 v)
