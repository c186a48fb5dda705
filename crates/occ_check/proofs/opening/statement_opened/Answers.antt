use Rattle.std.proofs.Common.{◌≡◌, ◌∙◌, [], Option, ap, map, subst, sym}
use Rattle.occ_tree_grammar.specs.Expressions.Trees.{expression_of as tree_of}
use Rattle.occ_tree_grammar.specs.Lines.Views.{var_of}
use Rattle.occ_tree_grammar.specs.Processes.Trees.{nodes}
use Rattle.occ_tree_grammar.specs.Processes.Views.{held_selections, selection_of, variant_of}
use Rattle.occ_tree_grammar.specs.declared.tree.expr.Expr.{Expr}
use Rattle.occ_tree_grammar.specs.declared.tree.process.Arm.TheBlock.{hidden-the_row-Selection-5}
use Rattle.occ_term.specs.Terms as T
use Rattle.occ_check_meaning.specs.Actions.{none_chosen}
use Rattle.occ_check_meaning.specs.Numbers.{Numbers}
use Rattle.occ_check_meaning.specs.Performing.{selected, taken_by_variant}
use Rattle.occ_check_meaning.specs.Recursion.{all_options, all_variants}
use Rattle.occ_check.specs.Opened.{Opens, statement_left}
use Rattle.occ_check.specs.Progress.{counted, meant_at}
use Rattle.occ_check.specs.Opening.{performing as statement_unfolded}
use Rattle.occ_check.proofs.opening.statement_opened.Goals as goal

pub returns-in-Case-clause-opens : goal.returns-in-Case-clause-opens
returns-in-Case-clause-opens c =
    let sc = meant_at c.args.unfolder.now c.args.here.at in
    let n = counted c.args.unfolder.now in
    let e = tree_of c.deref-in-Case.result.now in
    let same : selected c.args.here.line e (λ type. all_options (nodes (map selection_of c.listed_selections.result.now)) type none_chosen) sc c.args.here.depth n ≡ statement_unfolded c.args.here.line c.args.statement.now sc c.args.here.depth n =
    ap (λ os. selected c.args.here.line e (λ type. all_options os type none_chosen) sc c.args.here.depth n) c.listed_selections.ensures
    ∙ ap (λ (x : Expr). selected c.args.here.line (tree_of x) (λ type. all_options (held_selections (hidden-the_row-Selection-5 c.in-Case.list)) type none_chosen) sc c.args.here.depth n) c.deref-in-Case.ensures
    ∙ sym (ap (λ s. statement_unfolded c.args.here.line s sc c.args.here.depth n) c.in-Case.is) in
    subst (λ (o : Option (T.Term × Numbers)). Opens statement_left c.options_opened.result c.options_opened.new.unfolder o) same c.options_opened.ensures.opens

pub returns-in-Variants-clause-opens : goal.returns-in-Variants-clause-opens
returns-in-Variants-clause-opens c =
    let sc = meant_at c.args.unfolder.now c.args.here.at in
    let n = counted c.args.unfolder.now in
    let v = var_of c.in-Variants.channel in
    let same : taken_by_variant c.args.here.line v (λ p. all_variants (nodes (map variant_of c.listed_variants.result.now)) p []) sc c.args.here.depth n ≡ statement_unfolded c.args.here.line c.args.statement.now sc c.args.here.depth n =
    ap (λ vs. taken_by_variant c.args.here.line v (λ p. all_variants vs p []) sc c.args.here.depth n) c.listed_variants.ensures
    ∙ sym (ap (λ s. statement_unfolded c.args.here.line s sc c.args.here.depth n) c.in-Variants.is) in
    subst (λ (o : Option (T.Term × Numbers)). Opens statement_left c.variants_opened.result c.variants_opened.new.unfolder o) same c.variants_opened.ensures.opens
