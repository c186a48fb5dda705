use Rattle.std.proofs.Common.{arith, ◌+◌, map, subst, sym}
use Rattle.occ_tree_grammar.specs.Lines.Views as lines
use Rattle.occ_tree_grammar.specs.Processes.Trees.{decls}
use Rattle.occ_tree_grammar.specs.Processes.Views.{decl_of, process_of, variant_of}
use Rattle.occ_check.specs.Opened.{Opens}
use Rattle.occ_check.specs.Variants.{variant_left}
use Rattle.occ_check.specs.Progress.{counted, meant_at, weight_at}
use Rattle.occ_check.specs.Weights.{decls_size, node_size}
use Rattle.occ_check.specs.declared.variants.OpenedVariant.{OpenedVariant}
use Rattle.occ_check.proofs.OpenedParts.{lighter_on}
use Rattle.occ_check.proofs.VariantLists.{variant_form, variant_size}
use Rattle.occ_check.proofs.variants.variant_opened.Goals as goal

pub returns-clause-opens : goal.returns-clause-opens
returns-clause-opens c =
    subst (Opens variant_left c.tagged_opened.result c.tagged_opened.new.unfolder)
    (sym (variant_form c.args.variant.now (decls (map decl_of c.declarations_of-declarations.result.now)) c.line_of-line.result (map lines.target_of c.targets_of-targets.result.now) c.body_of-body.result.now
    c.declarations_of-declarations.ensures c.line_of-line.ensures c.targets_of-targets.ensures c.body_of-body.ensures
    c.args.protocol.now c.args.tag (meant_at c.args.unfolder.now c.args.here.at) c.args.here.depth (counted c.args.unfolder.now)))
    c.tagged_opened.ensures.opens

pub returns-clause-weight : goal.returns-clause-weight
returns-clause-weight c =
    let size = variant_size c.args.variant.now (decls (map decl_of c.declarations_of-declarations.result.now)) c.line_of-line.result (map lines.target_of c.targets_of-targets.result.now) c.body_of-body.result.now
    c.declarations_of-declarations.ensures c.line_of-line.ensures c.targets_of-targets.ensures c.body_of-body.ensures in
    lighter_on c.tagged_opened.result (λ (o : OpenedVariant). node_size (process_of o.body.now) + weight_at c.tagged_opened.new.unfolder o.here.at) ((decls_size (decls (map decl_of c.declarations_of-declarations.result.now)) + node_size (process_of c.body_of-body.result.now)) + weight_at c.args.unfolder.now c.args.here.at)
    (node_size (variant_of c.args.variant.now) + weight_at c.args.unfolder.now c.args.here.at) (omega (arith, size)) c.tagged_opened.ensures.weight
