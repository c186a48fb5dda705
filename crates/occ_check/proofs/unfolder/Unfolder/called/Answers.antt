use Rattle.std.proofs.Common.{rules, ◌+◌, ◌∙◌, ap, refl}
use Rattle.occ_tree_grammar.specs.Lines.Views.{actuals_of, formals_of}
use Rattle.occ_tree_grammar.specs.Processes.Views.{process_of}
use Rattle.occ_term.specs.View.{declarations_of}
use Rattle.occ_check_meaning.specs.Scope.{names_of}
use Rattle.occ_check_meaning.specs.Meant.{meaning_of}
use Rattle.occ_check.specs.Entering.{procedure_of}
use Rattle.occ_check_lines.specs.Declaration.{pairs_of}
use Rattle.occ_check.specs.Progress.{counted, meant_at, scope_at}
use Rattle.occ_check_lines.specs.View.{Refuses, names_in, numbers_of, scope_in}
use Rattle.occ_check.specs.Weights.{weight}
use Rattle.occ_check_lines.proofs.Refusals.{refused_with}
use Rattle.occ_check.proofs.EnteringScopes.{call_bound, call_refused, names_are, scope_is}
use Rattle.occ_check.proofs.Weights.{same_weight}
use Rattle.occ_check.proofs.unfolder.Unfolder.called.Goals as goal

pub returns-in_err-opened-clause-call : goal.returns-in_err-opened-clause-call
returns-in_err-opened-clause-call c =
    let u = c.args.self.now in
    let outer = scope_is c.scope-2.result u.blocks.blocks.items c.args.outer c.scope-2.ensures.0 c.scope-2.ensures.1 in
    let inner = scope_is c.scope.result u.blocks.blocks.items c.args.here.at c.scope.ensures.0 c.scope.ensures.1 in
    let refused : Refuses c.in_err-opened.field-0.0
    (meaning_of (procedure_of c.args.procedure) (meant_at u c.args.outer) (names_of (meant_at u c.args.here.at)) c.args.here.line c.args.here.depth (actuals_of c.args.actuals.now) (counted u)) =
    refused_with c.in_err-opened.field-0.0 _ _
    (call_refused (scope_at u c.args.here.at) (scope_at u c.args.outer) c.args.here.line c.args.procedure.line c.args.here.depth (c.args.here.depth + 1) (formals_of c.args.procedure.formals.now) (process_of c.args.procedure.body.now)
    (actuals_of c.args.actuals.now) (counted u) (names_in c.scope.result) (names_in c.scope-2.result) (names_are c.scope.result (scope_at u c.args.here.at) inner) (names_are c.scope-2.result (scope_at u c.args.outer) outer) refl)
    c.in_err-opened.ensures in
    search rules

pub returns-clause-call : goal.returns-clause-call
returns-clause-call c =
    let u = c.args.self.now in
    let outer = scope_is c.scope-2.result u.blocks.blocks.items c.args.outer c.scope-2.ensures.0 c.scope-2.ensures.1 in
    let inner = scope_is c.scope.result u.blocks.blocks.items c.args.here.at c.scope.ensures.0 c.scope.ensures.1 in
    call_bound (scope_at u c.args.here.at) (scope_at u c.args.outer) c.args.here.line c.args.procedure.line c.args.here.depth (c.args.here.depth + 1) (formals_of c.args.procedure.formals.now) (process_of c.args.procedure.body.now)
    (actuals_of c.args.actuals.now) (counted u) (names_in c.scope.result) (names_in c.scope-2.result) (names_are c.scope.result (scope_at u c.args.here.at) inner) (names_are c.scope-2.result (scope_at u c.args.outer) outer) refl
    (pairs_of c.in_ok-opened.opened.names.items) (declarations_of c.in_ok-opened.opened.heads) (numbers_of c.formals_bound.new.numbers) (scope_in _ c.in_ok-inside.inside) c.in_ok-opened.ensures
    c.in_ok-inside.ensures.scope

pub returns-clause-weight : goal.returns-clause-weight
returns-clause-weight c = ap weight c.in_ok-inside.ensures.scope ∙ same_weight (pairs_of c.in_ok-opened.opened.names.items) (scope_at c.args.self.now c.args.outer)
