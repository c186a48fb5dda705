use Rattle.std.proofs.Common.{rules, ◌≡◌, ◌+◌, ◌∙◌, ◌∷◌, arith, map, subst, sym}
use Rattle.occ_tree_grammar.specs.Expressions.Trees.{expression_of, expressions}
use Rattle.occ_tree_grammar.specs.Lines.Views.{sort_of}
use Rattle.occ_tree_grammar.specs.Processes.Views.{decl_of, item_of}
use Rattle.occ_check_meaning.specs.Declarations as meant
use Rattle.occ_check_meaning.specs.Recursion.{declared}
use Rattle.occ_check.specs.Progress.{Enters, counted, innermost_at, meant_innermost}
use Rattle.occ_check_lines.specs.View.{Refuses, names_in}
use Rattle.occ_check.specs.Weights.{decl_size, item_size, weight}
use Rattle.occ_check_lines.proofs.Refusals.{refused_with}
use Rattle.occ_check.proofs.EnteringScopes.{enters_names, heavier, item_form, item_within, names_are, names_form, names_refused}
use Rattle.occ_check.proofs.unfolder.Unfolder.one_declared.Goals as goal

pub returns-in_err-opened-in-Names-clause-entered : goal.returns-in_err-opened-in-Names-clause-entered
returns-in_err-opened-in-Names-clause-entered c =
    let u = c.args.self.now in
    let v = c.in-Names in
    let refused : Refuses c.in_err-opened-in-Names.field-0.0 (declared (decl_of c.args.declaration.now) (meant_innermost u) c.args.depth (counted u)) =
    refused_with c.in_err-opened-in-Names.field-0.0 _ _
    (λ none. names_form c.args.declaration.now v.line v.sizes v.sort v.names c.deref.result.now c.deref-in-Names.result.now v.is c.deref.ensures.value c.deref-in-Names.ensures (meant_innermost u) c.args.depth (counted u)
    ∙ names_refused
    (λ ns. meant.names_declared ns v.line c.args.depth (expressions (map expression_of c.deref.result.now)) (sort_of c.deref-in-Names.result.now) (v.names.first ∷ v.names.others.items) (counted u))
    (innermost_at u) (names_in c.inside.result) (names_are c.inside.result (innermost_at u) c.inside.ensures) none)
    c.in_err-opened-in-Names.ensures in
    search rules

pub returns-in_ok-opened-in-Names-clause-entered : goal.returns-in_ok-opened-in-Names-clause-entered
returns-in_ok-opened-in-Names-clause-entered c =
    let u = c.args.self.now in
    let v = c.in-Names in
    subst (Enters c.opened_names.result c.opened_names.new.self)
    (sym (names_form c.args.declaration.now v.line v.sizes v.sort v.names c.deref.result.now c.deref-in-Names.result.now v.is c.deref.ensures.value c.deref-in-Names.ensures (meant_innermost u) c.args.depth (counted u)))
    (enters_names c.opened_names.result c.opened_names.new.self (innermost_at u)
    (λ ns. meant.names_declared ns v.line c.args.depth (expressions (map expression_of c.deref.result.now)) (sort_of c.deref-in-Names.result.now) (v.names.first ∷ v.names.others.items) (counted u))
    (names_in c.inside.result) c.in_ok-opened-in-Names.opened c.names_declared.new.numbers (names_are c.inside.result (innermost_at u) c.inside.ensures) c.in_ok-opened-in-Names.ensures
    c.opened_names.ensures.scope c.opened_names.ensures.heads c.opened_names.ensures.numbers c.opened_names.ensures.memory)

pub returns-in-Item-clause-entered : goal.returns-in-Item-clause-entered
returns-in-Item-clause-entered c =
    let u = c.args.self.now in
    subst (Enters c.item_declared.result c.item_declared.new.self) (sym (item_form c.args.declaration.now c.in-Item.item c.in-Item.is (meant_innermost u) c.args.depth (counted u)))
    c.item_declared.ensures.entered

pub returns-in-Item-clause-weight : goal.returns-in-Item-clause-weight
returns-in-Item-clause-weight c =
    let before = weight (innermost_at c.args.self.now) in
    let within : decl_size (decl_of c.args.declaration.now) ≡ item_size (item_of c.in-Item.item) + 1 = item_within c.args.declaration.now c.in-Item.item c.in-Item.is in
    heavier c.item_declared.result (weight (innermost_at c.item_declared.new.self)) (item_size (item_of c.in-Item.item) + before) (decl_size (decl_of c.args.declaration.now) + before)
    (omega (arith, within)) c.item_declared.ensures.weight
