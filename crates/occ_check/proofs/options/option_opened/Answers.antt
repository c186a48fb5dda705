use Rattle.std.proofs.Common.{arith, ◌∷◌, ◌+◌, map, subst, sym}
use Rattle.occ_tree_grammar.specs.Expressions.Trees.{expression_of as tree_of}
use Rattle.occ_tree_grammar.specs.Processes.Trees.{decls}
use Rattle.occ_tree_grammar.specs.Processes.Views.{decl_of, process_of, selection_of}
use Rattle.occ_tree_grammar.specs.declared.tree.expr.Expr.{Expr}
use Rattle.occ_tree_grammar.specs.declared.tree.line.OneOrMore.{OneOrMore}
use Rattle.occ_check_lines.specs.Action.{chosen_of}
use Rattle.occ_check_meaning.specs.Performing as performs
use Rattle.occ_check_meaning.specs.Recursion.{all_declared, unfolded}
use Rattle.occ_check.specs.Opened.{Opens}
use Rattle.occ_check.specs.Options.{option_left}
use Rattle.occ_check.specs.Progress.{counted, meant_at, weight_at}
use Rattle.occ_check.specs.Weights.{decls_size, node_size}
use Rattle.occ_check.specs.declared.options.OpenedOption.{OpenedOption}
use Rattle.occ_check.proofs.OpenedParts.{lighter_on}
use Rattle.occ_check.proofs.OptionLists.{otherwise_form, otherwise_size, values_form, values_size}
use Rattle.occ_check.proofs.options.option_opened.Goals as goal

pub returns-in-Values-clause-opens : goal.returns-in-Values-clause-opens
returns-in-Values-clause-opens c =
    subst (Opens (option_left c.values_opened.new.chosen) c.values_opened.result c.values_opened.new.unfolder)
    (sym (values_form c.args.selection.now c.in-Values.declarations c.in-Values.line c.in-Values.values c.in-Values.body (decls (map decl_of c.listed_declarations-declarations.result.now)) c.in-Values.is c.listed_declarations-declarations.ensures
    c.args.primitive (chosen_of c.args.chosen.now) (meant_at c.args.unfolder.now c.args.here.at) c.args.here.depth (counted c.args.unfolder.now)))
    (subst (λ (v : OneOrMore Expr). Opens (option_left c.values_opened.new.chosen) c.values_opened.result c.values_opened.new.unfolder
    (performs.option_of c.in-Values.line (tree_of v.first ∷ map tree_of v.others.items) (all_declared (decls (map decl_of c.listed_declarations-declarations.result.now))) (unfolded (process_of c.in-Values.body))
    c.args.primitive (chosen_of c.args.chosen.now) (meant_at c.args.unfolder.now c.args.here.at) c.args.here.depth (counted c.args.unfolder.now)))
    c.deref.ensures c.values_opened.ensures.opens)

pub returns-in-Values-clause-weight : goal.returns-in-Values-clause-weight
returns-in-Values-clause-weight c =
    let size = values_size c.args.selection.now c.in-Values.declarations c.in-Values.line c.in-Values.values c.in-Values.body (decls (map decl_of c.listed_declarations-declarations.result.now)) c.in-Values.is c.listed_declarations-declarations.ensures in
    lighter_on c.values_opened.result (λ (o : OpenedOption). node_size (process_of o.body.now) + weight_at c.values_opened.new.unfolder o.here.at) ((decls_size (decls (map decl_of c.listed_declarations-declarations.result.now)) + node_size (process_of c.in-Values.body)) + weight_at c.args.unfolder.now c.args.here.at)
    (node_size (selection_of c.args.selection.now) + weight_at c.args.unfolder.now c.args.here.at) (omega (arith, size)) c.values_opened.ensures.weight

pub returns-in-Else-clause-opens : goal.returns-in-Else-clause-opens
returns-in-Else-clause-opens c =
    subst (Opens (option_left c.else_opened.new.chosen) c.else_opened.result c.else_opened.new.unfolder)
    (sym (otherwise_form c.args.selection.now c.in-Else.declarations c.in-Else.line c.in-Else.body (decls (map decl_of c.listed_declarations-declarations-in-Else.result.now)) c.in-Else.is c.listed_declarations-declarations-in-Else.ensures
    c.args.primitive (chosen_of c.args.chosen.now) (meant_at c.args.unfolder.now c.args.here.at) c.args.here.depth (counted c.args.unfolder.now)))
    c.else_opened.ensures.opens

pub returns-in-Else-clause-weight : goal.returns-in-Else-clause-weight
returns-in-Else-clause-weight c =
    let size = otherwise_size c.args.selection.now c.in-Else.declarations c.in-Else.line c.in-Else.body (decls (map decl_of c.listed_declarations-declarations-in-Else.result.now)) c.in-Else.is c.listed_declarations-declarations-in-Else.ensures in
    lighter_on c.else_opened.result (λ (o : OpenedOption). node_size (process_of o.body.now) + weight_at c.else_opened.new.unfolder o.here.at) ((decls_size (decls (map decl_of c.listed_declarations-declarations-in-Else.result.now)) + node_size (process_of c.in-Else.body)) + weight_at c.args.unfolder.now c.args.here.at)
    (node_size (selection_of c.args.selection.now) + weight_at c.args.unfolder.now c.args.here.at) (omega (arith, size)) c.else_opened.ensures.weight
