use Rattle.std.proofs.Common.{◌≡◌, sym, subst, map}
use Rattle.occ_tree_grammar.specs.declared.lines.head.OptionHead.{OptionHead}
use Rattle.occ_tree_grammar.specs.declared.tree.process.Selection.TheVariants as selections
use Rattle.occ_tree_grammar.specs.Lines.HeadViews.{option_head_of}
use Rattle.occ_tree_grammar.specs.Processes.Trees.{decls, node, single_body, option as the_option}
use Rattle.occ_tree_grammar.specs.Processes.Views.{decl_of, process_of, selection_of}
use Rattle.occ_tree_grammar.proofs.Made.{selection_values, selection_else}
use Rattle.occ_tree_reader.proofs.processes.head.selected.Goals as goal

pub returns-in-Values : goal.returns-in-Values
returns-in-Values c =
    let a = c.args in
    subst (λ (h : OptionHead). selection_of (selections.Values a.declarations a.line c.in-Values.values a.body) ≡ node {k = the_option} (decls (map decl_of a.declarations.items)) a.line (option_head_of h) (single_body (process_of a.body)))
    (sym c.in-Values.is) (selection_values a.declarations a.line c.in-Values.values a.body)

pub returns-in-Else : goal.returns-in-Else
returns-in-Else c =
    let a = c.args in
    subst (λ (h : OptionHead). selection_of (selections.Else a.declarations a.line a.body) ≡ node {k = the_option} (decls (map decl_of a.declarations.items)) a.line (option_head_of h) (single_body (process_of a.body)))
    (sym c.in-Else.is) (selection_else a.declarations a.line a.body)
