use Rattle.std.proofs.Common.{◌≡◌, Some, sym, ap, subst, ◌∙◌}
use Rattle.occ_text.specs.Words.{logical_lines}
use Rattle.occ_tree_grammar.specs.declared.tree.process.Decl.TheVariants as declTrees
use Rattle.occ_tree_grammar.specs.declared.tree.process.Item.TheVariants as itemTrees
use Rattle.occ_tree_grammar.specs.declared.tree.process.Protocol.TheVariants as protocols
use Rattle.occ_tree_grammar.specs.Lines.Heads.{DeclHead}
use Rattle.occ_tree_grammar.specs.Lines.HeadViews.{decl_head_of}
use Rattle.occ_tree_grammar.specs.Processes.Trees.{Decl, item}
use Rattle.occ_tree_grammar.specs.Processes.Views.{decl_of}
use Rattle.occ_tree_grammar.proofs.Made.{decl_names, decl_item, item_value, item_protocol}
use Rattle.occ_tree_reader.specs.Opened.{whole, left_behind}
use Rattle.occ_tree_reader.proofs.processes.declaration.opened_behind.Goals as goal

pub returns-in-Names : goal.returns-in-Names
returns-in-Names c =
    subst (λ (h : DeclHead). left_behind c.args.left c.args.level c.args.line h (logical_lines c.args.lines.now) ≡ Some (whole (decl_of (declTrees.Names c.args.line c.in-Names.sizes c.in-Names.sort c.in-Names.names)), logical_lines c.args.lines.now)) (sym (ap decl_head_of c.in-Names.is)) (ap (λ (d : Decl). Some (whole d, logical_lines c.args.lines.now)) (sym (decl_names c.args.line c.in-Names.sizes c.in-Names.sort c.in-Names.names)))

pub returns-in-Value : goal.returns-in-Value
returns-in-Value c =
    subst (λ (h : DeclHead). left_behind c.args.left c.args.level c.args.line h (logical_lines c.args.lines.now) ≡ Some (whole (decl_of (declTrees.Item (itemTrees.Value c.args.line c.in-Value.of c.in-Value.name c.in-Value.value))), logical_lines c.args.lines.now)) (sym (ap decl_head_of c.in-Value.is)) (ap (λ (d : Decl). Some (whole d, logical_lines c.args.lines.now)) (ap item (sym (item_value c.args.line c.in-Value.of c.in-Value.name c.in-Value.value)) ∙ sym (decl_item (itemTrees.Value c.args.line c.in-Value.of c.in-Value.name c.in-Value.value))))

pub returns-in-Parts : goal.returns-in-Parts
returns-in-Parts c =
    subst (λ (h : DeclHead). left_behind c.args.left c.args.level c.args.line h (logical_lines c.args.lines.now) ≡ Some (whole (decl_of (declTrees.Item (itemTrees.Protocol (protocols.Parts c.args.line c.in-Parts.name c.in-Parts.parts)))), logical_lines c.args.lines.now)) (sym (ap decl_head_of c.in-Parts.is)) (ap (λ (d : Decl). Some (whole d, logical_lines c.args.lines.now)) (ap item (sym (item_protocol (protocols.Parts c.args.line c.in-Parts.name c.in-Parts.parts))) ∙ sym (decl_item (itemTrees.Protocol (protocols.Parts c.args.line c.in-Parts.name c.in-Parts.parts)))))

pub returns-in_ok-protocol-in-Tags : goal.returns-in_ok-protocol-in-Tags
returns-in_ok-protocol-in-Tags c =
    subst (λ (h : DeclHead). left_behind c.args.left c.args.level c.args.line h (logical_lines c.args.lines.now) ≡ Some (whole (decl_of (declTrees.Item (itemTrees.Protocol c.in_ok-protocol-in-Tags.protocol))), logical_lines c.in_ok-protocol-in-Tags.rest.now)) (sym (ap decl_head_of c.in-Tags.is)) (rw c.in_ok-protocol-in-Tags.ensures (ap (λ (d : Decl). Some (whole d, logical_lines c.in_ok-protocol-in-Tags.rest.now)) (ap item (sym (item_protocol c.in_ok-protocol-in-Tags.protocol)) ∙ sym (decl_item (itemTrees.Protocol c.in_ok-protocol-in-Tags.protocol)))))
