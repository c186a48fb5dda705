use Rattle.std.proofs.Common.{rules, ◌∙◌, Some, ap, option_map, reverse, subst, sym}
use Rattle.occ_tree_grammar.specs.Expressions.Trees.{expression_of}
use Rattle.occ_tree_grammar.specs.Lines.Views.{value_type_of}
use Rattle.occ_tree_grammar.specs.Processes.Views.{item_of, protocol_of}
use Rattle.occ_term.specs.View.{declarations_of}
use Rattle.occ_check_meaning.specs.Declarations as meant
use Rattle.occ_check_meaning.specs.Performing.{entered}
use Rattle.occ_check_meaning.specs.Recursion.{item_declared}
use Rattle.occ_check_meaning.specs.Meant as scopes
use Rattle.occ_check.specs.Progress.{Enters, counted, innermost_at, meant_innermost}
use Rattle.occ_check_lines.specs.View.{Refuses, innermost, names_in}
use Rattle.occ_check_lines.proofs.Refusals.{refused_with}
use Rattle.occ_check.proofs.EnteringScopes.{enters_names, names_are, names_refused, proc_form, proc_within, protocol_form, value_form}
use Rattle.occ_check.proofs.unfolder.Unfolder.item_declared.Goals as goal

pub returns-in_err-opened-in-Value-clause-entered : goal.returns-in_err-opened-in-Value-clause-entered
returns-in_err-opened-in-Value-clause-entered c =
    let u = c.args.self.now in
    let v = c.in-Value in
    let refused : Refuses c.in_err-opened-in-Value.field-0.0 (item_declared (item_of c.args.item.now) (meant_innermost u) c.args.depth (counted u)) =
    refused_with c.in_err-opened-in-Value.field-0.0 _ _
    (λ none. value_form c.args.item.now v.line v.value_type v.name v.e c.deref.result.now v.is c.deref.ensures (meant_innermost u) c.args.depth (counted u)
    ∙ names_refused (λ ns. meant.value_declared ns v.line c.args.depth (option_map value_type_of v.value_type) v.name (expression_of c.deref.result.now) (counted u)) (innermost_at u)
    (names_in c.inside.result) (names_are c.inside.result (innermost_at u) c.inside.ensures) none)
    c.in_err-opened-in-Value.ensures in
    search rules

pub returns-in_err-opened-in-Protocol-clause-entered : goal.returns-in_err-opened-in-Protocol-clause-entered
returns-in_err-opened-in-Protocol-clause-entered c =
    let u = c.args.self.now in
    let p = c.in-Protocol in
    let refused : Refuses c.in_err-opened-in-Protocol.field-0.0 (item_declared (item_of c.args.item.now) (meant_innermost u) c.args.depth (counted u)) =
    refused_with c.in_err-opened-in-Protocol.field-0.0 _ _
    (λ none. protocol_form c.args.item.now p.protocol p.is (meant_innermost u) c.args.depth (counted u)
    ∙ names_refused (λ ns. meant.protocol_declared ns (protocol_of p.protocol) (counted u)) (innermost_at u) (names_in c.inside-in-Protocol.result)
    (names_are c.inside-in-Protocol.result (innermost_at u) c.inside-in-Protocol.ensures) none)
    c.in_err-opened-in-Protocol.ensures in
    search rules

pub returns-in_ok-opened-in-Value-clause-entered : goal.returns-in_ok-opened-in-Value-clause-entered
returns-in_ok-opened-in-Value-clause-entered c =
    let u = c.args.self.now in
    let v = c.in-Value in
    subst (Enters c.opened_names.result c.opened_names.new.self)
    (sym (value_form c.args.item.now v.line v.value_type v.name v.e c.deref.result.now v.is c.deref.ensures (meant_innermost u) c.args.depth (counted u)))
    (enters_names c.opened_names.result c.opened_names.new.self (innermost_at u)
    (λ ns. meant.value_declared ns v.line c.args.depth (option_map value_type_of v.value_type) v.name (expression_of c.deref.result.now) (counted u)) (names_in c.inside.result)
    c.in_ok-opened-in-Value.opened c.value_declared.new.numbers (names_are c.inside.result (innermost_at u) c.inside.ensures) c.in_ok-opened-in-Value.ensures
    c.opened_names.ensures.scope c.opened_names.ensures.heads c.opened_names.ensures.numbers c.opened_names.ensures.memory)

pub returns-in_ok-opened-in-Protocol-clause-entered : goal.returns-in_ok-opened-in-Protocol-clause-entered
returns-in_ok-opened-in-Protocol-clause-entered c =
    let u = c.args.self.now in
    let p = c.in-Protocol in
    let o = c.opened_names-in-Protocol in
    subst (Enters o.result o.new.self)
    (sym (protocol_form c.args.item.now p.protocol p.is (meant_innermost u) c.args.depth (counted u)))
    (enters_names o.result o.new.self (innermost_at u) (λ ns. meant.protocol_declared ns (protocol_of p.protocol) (counted u)) (names_in c.inside-in-Protocol.result)
    c.in_ok-opened-in-Protocol.opened c.protocol_declared.new.numbers (names_are c.inside-in-Protocol.result (innermost_at u) c.inside-in-Protocol.ensures) c.in_ok-opened-in-Protocol.ensures
    o.ensures.scope o.ensures.heads o.ensures.numbers o.ensures.memory)

pub returns-in_ok-declare-in-Proc-clause-entered : goal.returns-in_ok-declare-in-Proc-clause-entered
returns-in_ok-declare-in-Proc-clause-entered c =
    let u = c.args.self.now in
    let p = c.in-Proc in
    let inside = innermost (reverse c.declare.new.self.blocks.items) in
    let is = c.in_ok-declare-in-Proc.ensures.scope in
    proc_form c.args.item.now p.line p.name p.formals p.body p.field-4 p.is (innermost_at u) inside is c.args.depth (counted u)
    ∙ ap (λ heads. Some (entered (scopes.meant inside) (declarations_of heads) (counted u))) (sym c.new.ensures)

pub returns-in_ok-declare-in-Proc-clause-weight : goal.returns-in_ok-declare-in-Proc-clause-weight
returns-in_ok-declare-in-Proc-clause-weight c =
    let u = c.args.self.now in
    let p = c.in-Proc in
    let is = c.in_ok-declare-in-Proc.ensures.scope in
    proc_within c.args.item.now p.line p.name p.formals p.body p.field-4 p.is (innermost_at u) (innermost (reverse c.declare.new.self.blocks.items)) is
