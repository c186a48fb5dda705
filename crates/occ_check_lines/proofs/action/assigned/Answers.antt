use Rattle.std.proofs.Common.{◌∷◌, map, rules}
use Rattle.occ_tree_grammar.specs.Expressions.Trees.{expression_of}
use Rattle.occ_tree_grammar.specs.Lines.Views.{var_of}
use Rattle.occ_term.specs.View as terms
use Rattle.occ_check_meaning.specs.Actions as meant
use Rattle.occ_check_lines.specs.View.{Refuses, names_in}
use Rattle.occ_check_lines.proofs.Assigning.{all_assigned, no_sides, no_variables, not_apart}
use Rattle.occ_check_lines.proofs.action.assigned.Goals as goal

pub returns-in_err-variables : goal.returns-in_err-variables
returns-in_err-variables c =
    let vs = var_of c.args.variables.now.first ∷ map var_of c.args.variables.now.others.items in
    let es = expression_of c.args.values.now.first ∷ map expression_of c.args.values.now.others.items in
    let refused : Refuses c.in_err-variables.field-0.0 (meant.assigned (names_in c.args.context.scope) c.args.context.line vs es) =
    no_variables (names_in c.args.context.scope) c.args.context.line vs es c.in_err-variables.field-0.0 c.in_err-variables.ensures in
    search rules

pub returns-in_err-items : goal.returns-in_err-items
returns-in_err-items c =
    let vs = var_of c.args.variables.now.first ∷ map var_of c.args.variables.now.others.items in
    let es = expression_of c.args.values.now.first ∷ map expression_of c.args.values.now.others.items in
    let refused : Refuses c.in_err-items.field-0.0 (meant.assigned (names_in c.args.context.scope) c.args.context.line vs es) =
    no_sides (names_in c.args.context.scope) c.args.context.line vs es c.in_ok-variables.variables.items c.in_ok-variables.ensures c.in_err-items.field-0.0 (rw c.deref.ensures.value at c.in_err-items.ensures) in
    search rules

pub returns-in_err-apart : goal.returns-in_err-apart
returns-in_err-apart c =
    let vs = var_of c.args.variables.now.first ∷ map var_of c.args.variables.now.others.items in
    let es = expression_of c.args.values.now.first ∷ map expression_of c.args.values.now.others.items in
    let refused : Refuses c.in_err-apart.field-0.0 (meant.assigned (names_in c.args.context.scope) c.args.context.line vs es) =
    not_apart (names_in c.args.context.scope) c.args.context.line vs es c.in_ok-variables.variables.items c.in_ok-variables.ensures (terms.targets_of c.in_ok-targets.targets) c.in_ok-targets.ensures
    c.in_err-apart.field-0.0 (rw c.as_slice.ensures at c.in_err-apart.ensures) in
    search rules

pub returns : goal.returns
returns c =
    let vs = var_of c.args.variables.now.first ∷ map var_of c.args.variables.now.others.items in
    let es = expression_of c.args.values.now.first ∷ map expression_of c.args.values.now.others.items in
    all_assigned (names_in c.args.context.scope) c.args.context.line vs es c.in_ok-variables.variables.items c.in_ok-variables.ensures (terms.targets_of c.in_ok-targets.targets) c.in_ok-targets.ensures
    _ (rw c.as_slice.ensures at c.in_ok-apart.ensures) (terms.items_of c.in_ok-items.items) (rw c.deref.ensures.value at c.in_ok-items.ensures)
