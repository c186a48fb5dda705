use Rattle.std.proofs.Common.{arith, rules, ◌≡◌, ◌+◌, ◌≤◌, ap, map, sym, subst}
use Rattle.occ_tree_grammar.specs.Processes.Trees.{decls}
use Rattle.occ_tree_grammar.specs.Processes.Views.{arm_of, decl_of}
use Rattle.occ_term.specs.View.{declarations_of}
use Rattle.occ_check_meaning.specs.Recursion.{arm_unfolded}
use Rattle.occ_check_lines.specs.View.{Refuses}
use Rattle.occ_check_lines.proofs.Refusals.{refused_with}
use Rattle.occ_check.specs.Opened.{Opens}
use Rattle.occ_check.specs.Arms.{arm_left, arm_weight, declarations_of_arm, arm_size}
use Rattle.occ_check.specs.Progress.{counted, meant_at, weight_at}
use Rattle.occ_check.specs.Weights.{decls_size, node_size}
use Rattle.occ_check.proofs.ArmLists.{arm_behind, arm_not_declared, arm_too_deep, within_arm}
use Rattle.occ_check.proofs.Nesting.{as_many}
use Rattle.occ_check.proofs.OpenedParts.{kept_on, lighter_on}
use Rattle.occ_check.proofs.arms.arm_opened.Goals as goal

pub returns-in_err-heads-clause-opens : goal.returns-in_err-heads-clause-opens
returns-in_err-heads-clause-opens c =
    let refused : Refuses c.in_err-heads.field-0.0 (arm_unfolded (arm_of c.args.arm.now) (meant_at c.args.unfolder.now c.args.here.at) c.args.here.depth (counted c.args.unfolder.now)) =
    refused_with c.in_err-heads.field-0.0 _ _
    (arm_not_declared c.args.arm.now (meant_at c.args.unfolder.now c.args.here.at) c.args.here.depth (counted c.args.unfolder.now) (decls (map decl_of c.declarations_of.result.now)) c.declarations_of.ensures)
    c.in_err-heads.ensures.entered in
    search rules

pub returns-in_err-depth-clause-opens : goal.returns-in_err-depth-clause-opens
returns-in_err-depth-clause-opens c =
    let refused : Refuses c.in_err-depth.field-0.0 (arm_unfolded (arm_of c.args.arm.now) (meant_at c.args.unfolder.now c.args.here.at) c.args.here.depth (counted c.args.unfolder.now)) =
    refused_with c.in_err-depth.field-0.0 _ _
    (arm_too_deep c.args.arm.now (meant_at c.args.unfolder.now c.args.here.at) c.args.here.depth (counted c.args.unfolder.now) (decls (map decl_of c.declarations_of.result.now)) c.declarations_of.ensures
    (meant_at c.entering.new.self c.in_ok-heads.at) (declarations_of c.in_ok-heads.heads) (counted c.entering.new.self) c.in_ok-heads.ensures.entered
    c.len.result (as_many _ _ c.len.ensures))
    c.in_err-depth.ensures.deep in
    search rules

pub returns-clause-opens : goal.returns-clause-opens
returns-clause-opens c =
    subst (Opens arm_left c.listening_opened.result c.listening_opened.new.unfolder)
    (sym (arm_behind c.args.arm.now (meant_at c.args.unfolder.now c.args.here.at) c.args.here.depth (counted c.args.unfolder.now) (decls (map decl_of c.declarations_of.result.now)) c.declarations_of.ensures
    (meant_at c.entering.new.self c.in_ok-heads.at) (declarations_of c.in_ok-heads.heads) (counted c.entering.new.self) c.in_ok-heads.ensures.entered
    c.len.result (as_many _ _ c.len.ensures) c.in_ok-depth.depth c.in_ok-depth.ensures.deep))
    c.listening_opened.ensures.opens

pub returns-clause-kept : goal.returns-clause-kept
returns-clause-kept c =
    kept_on c.listening_opened.result c.args.unfolder.now.blocks.blocks.items c.entering.new.self.blocks.blocks.items c.listening_opened.new.unfolder.blocks.blocks.items c.in_ok-heads.ensures.kept c.listening_opened.ensures.kept

pub returns-clause-weight : goal.returns-clause-weight
returns-clause-weight c =
    let size = within_arm c.args.arm.now in
    let same : decls_size (decls (map decl_of c.declarations_of.result.now)) ≡ decls_size (declarations_of_arm c.args.arm.now) = ap decls_size c.declarations_of.ensures in
    let lighter : weight_at c.entering.new.self c.in_ok-heads.at ≤ decls_size (decls (map decl_of c.declarations_of.result.now)) + weight_at c.args.unfolder.now c.args.here.at = c.in_ok-heads.ensures.weight in
    lighter_on c.listening_opened.result (arm_weight c.listening_opened.new.unfolder) (arm_size c.args.arm.now + weight_at c.entering.new.self c.in_ok-heads.at) (node_size (arm_of c.args.arm.now) + weight_at c.args.unfolder.now c.args.here.at)
    (omega (arith, size, same, lighter)) c.listening_opened.ensures.weight
