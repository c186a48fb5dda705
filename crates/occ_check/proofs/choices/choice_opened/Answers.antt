use Rattle.std.proofs.Common.{arith, rules, ◌≡◌, ◌+◌, ◌≤◌, ap, map, sym, subst}
use Rattle.occ_tree_grammar.specs.Processes.Trees.{decls}
use Rattle.occ_tree_grammar.specs.Processes.Views.{choice_of, decl_of}
use Rattle.occ_term.specs.View.{declarations_of}
use Rattle.occ_check_meaning.specs.Recursion.{choice_unfolded}
use Rattle.occ_check_lines.specs.View.{Refuses}
use Rattle.occ_check_lines.proofs.Refusals.{refused_with}
use Rattle.occ_check.specs.Opened.{Opens}
use Rattle.occ_check.specs.Choices.{choice_left, choice_weight, declarations_of_choice, choice_size}
use Rattle.occ_check.specs.Progress.{counted, meant_at, weight_at}
use Rattle.occ_check.specs.Weights.{decls_size, node_size}
use Rattle.occ_check.proofs.ChoiceLists.{choice_behind, choice_not_declared, choice_too_deep, within_choice}
use Rattle.occ_check.proofs.Nesting.{as_many}
use Rattle.occ_check.proofs.OpenedParts.{kept_on, lighter_on}
use Rattle.occ_check.proofs.choices.choice_opened.Goals as goal

pub returns-in_err-heads-clause-opens : goal.returns-in_err-heads-clause-opens
returns-in_err-heads-clause-opens c =
    let refused : Refuses c.in_err-heads.field-0.0 (choice_unfolded (choice_of c.args.choice.now) (meant_at c.args.unfolder.now c.args.here.at) c.args.here.depth (counted c.args.unfolder.now)) =
    refused_with c.in_err-heads.field-0.0 _ _
    (choice_not_declared c.args.choice.now (meant_at c.args.unfolder.now c.args.here.at) c.args.here.depth (counted c.args.unfolder.now) (decls (map decl_of c.declarations_of.result.now)) c.declarations_of.ensures)
    c.in_err-heads.ensures.entered in
    search rules

pub returns-in_err-depth-clause-opens : goal.returns-in_err-depth-clause-opens
returns-in_err-depth-clause-opens c =
    let refused : Refuses c.in_err-depth.field-0.0 (choice_unfolded (choice_of c.args.choice.now) (meant_at c.args.unfolder.now c.args.here.at) c.args.here.depth (counted c.args.unfolder.now)) =
    refused_with c.in_err-depth.field-0.0 _ _
    (choice_too_deep c.args.choice.now (meant_at c.args.unfolder.now c.args.here.at) c.args.here.depth (counted c.args.unfolder.now) (decls (map decl_of c.declarations_of.result.now)) c.declarations_of.ensures
    (meant_at c.entering.new.self c.in_ok-heads.at) (declarations_of c.in_ok-heads.heads) (counted c.entering.new.self) c.in_ok-heads.ensures.entered
    c.len.result (as_many _ _ c.len.ensures))
    c.in_err-depth.ensures.deep in
    search rules

pub returns-clause-opens : goal.returns-clause-opens
returns-clause-opens c =
    subst (Opens choice_left c.chosen_opened.result c.chosen_opened.new.unfolder)
    (sym (choice_behind c.args.choice.now (meant_at c.args.unfolder.now c.args.here.at) c.args.here.depth (counted c.args.unfolder.now) (decls (map decl_of c.declarations_of.result.now)) c.declarations_of.ensures
    (meant_at c.entering.new.self c.in_ok-heads.at) (declarations_of c.in_ok-heads.heads) (counted c.entering.new.self) c.in_ok-heads.ensures.entered
    c.len.result (as_many _ _ c.len.ensures) c.in_ok-depth.depth c.in_ok-depth.ensures.deep))
    c.chosen_opened.ensures.opens

pub returns-clause-kept : goal.returns-clause-kept
returns-clause-kept c =
    kept_on c.chosen_opened.result c.args.unfolder.now.blocks.blocks.items c.entering.new.self.blocks.blocks.items c.chosen_opened.new.unfolder.blocks.blocks.items c.in_ok-heads.ensures.kept c.chosen_opened.ensures.kept

pub returns-clause-weight : goal.returns-clause-weight
returns-clause-weight c =
    let size = within_choice c.args.choice.now in
    let same : decls_size (decls (map decl_of c.declarations_of.result.now)) ≡ decls_size (declarations_of_choice c.args.choice.now) = ap decls_size c.declarations_of.ensures in
    let lighter : weight_at c.entering.new.self c.in_ok-heads.at ≤ decls_size (decls (map decl_of c.declarations_of.result.now)) + weight_at c.args.unfolder.now c.args.here.at = c.in_ok-heads.ensures.weight in
    lighter_on c.chosen_opened.result (choice_weight c.chosen_opened.new.unfolder) (choice_size c.args.choice.now + weight_at c.entering.new.self c.in_ok-heads.at) (node_size (choice_of c.args.choice.now) + weight_at c.args.unfolder.now c.args.here.at)
    (omega (arith, size, same, lighter)) c.chosen_opened.ensures.weight
