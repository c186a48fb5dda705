use Rattle.std.proofs.Common.{Some, sym, ap, ◌∙◌}
use Rattle.occ_text.specs.Words.{logical_lines}
use Rattle.occ_tree_grammar.specs.declared.tree.process.Item.TheVariants as items
use Rattle.occ_tree_grammar.specs.Processes.Trees.{Decl, item}
use Rattle.occ_tree_grammar.proofs.Made.{decl_item, item_proc}
use Rattle.occ_tree_reader.proofs.processes.declaration.procedure_ended.Goals as goal

pub returns : goal.returns
returns c =
    let a = c.args in
    rw c.in_ok-end.ensures (ap (λ (d : Decl). Some (d, logical_lines c.in_ok-end.rest.now)) (ap item (sym (item_proc a.line a.name a.formals a.body c.in_ok-end.end)) ∙ sym (decl_item (items.Proc a.line a.name a.formals a.body c.in_ok-end.end))))
