use Rattle.std.proofs.Common.{rules, subst, sym}
use Rattle.occ_tree_grammar.specs.Lines.Heads.{call}
use Rattle.occ_tree_grammar.specs.Lines.Views.{actuals_of, formals_of}
use Rattle.occ_tree_grammar.specs.Processes.Views.{process_of}
use Rattle.occ_check_meaning.specs.Performing.{acted}
use Rattle.occ_check.specs.Entering.{procedure_found, procedure_of}
use Rattle.occ_check.specs.Progress.{Calls, counted, meant_at, scope_at, weight_at}
use Rattle.occ_check_lines.specs.View.{Refuses}
use Rattle.occ_check_lines.proofs.Refusals.{refused_with}
use Rattle.occ_check.proofs.EnteringScopes.{a_procedure, called_falls, called_lighter, found_here, no_procedure, scope_is}
use Rattle.occ_check.proofs.unfolder.Unfolder.bound.Goals as goal

pub returns-in_err-procedure-clause-call : goal.returns-in_err-procedure-clause-call
returns-in_err-procedure-clause-call c =
    let u = c.args.self.now in
    let none : Refuses c.in_err-procedure.field-0.0 (procedure_found (scope_at u c.args.here.at) c.args.name.now) =
    subst (λ sc. Refuses c.in_err-procedure.field-0.0 (procedure_found sc c.args.name.now)) (scope_is c.scope.result u.blocks.blocks.items c.args.here.at c.scope.ensures.0 c.scope.ensures.1) c.in_err-procedure.ensures in
    let refused : Refuses c.in_err-procedure.field-0.0 (acted c.args.here.line (call c.args.name.now (actuals_of c.args.actuals.now)) (meant_at u c.args.here.at) c.args.here.depth (counted u)) =
    refused_with c.in_err-procedure.field-0.0 _ _ (no_procedure (scope_at u c.args.here.at) c.args.name.now c.args.here.line c.args.here.depth (actuals_of c.args.actuals.now) (counted u)) none in
    search rules

pub returns-clause-call : goal.returns-clause-call
returns-clause-call c =
    let u = c.args.self.now in
    let p = c.in_ok-procedure.procedure in
    let there = found_here c.scope.result u.blocks.blocks.items c.args.here.at (p, c.in_ok-procedure.outer) c.args.name.now c.scope.ensures.0 c.scope.ensures.1 c.in_ok-procedure.ensures in
    subst (Calls c.args.here.depth c.called.result c.called.new.self)
    (sym (a_procedure (scope_at u c.args.here.at) c.args.name.now c.args.here.line c.args.here.depth (actuals_of c.args.actuals.now) (counted u) (procedure_of p) (scope_at u c.in_ok-procedure.outer) there))
    c.called.ensures.call

pub returns-clause-weight : goal.returns-clause-weight
returns-clause-weight c =
    let u = c.args.self.now in
    let p = c.in_ok-procedure.procedure in
    let there = found_here c.scope.result u.blocks.blocks.items c.args.here.at (p, c.in_ok-procedure.outer) c.args.name.now c.scope.ensures.0 c.scope.ensures.1 c.in_ok-procedure.ensures in
    called_falls c.called.result c.called.new.self p.body.now (weight_at u c.in_ok-procedure.outer) (weight_at u c.args.here.at)
    (called_lighter (scope_at u c.args.here.at) c.args.name.now p.line (formals_of p.formals.now) (process_of p.body.now) (scope_at u c.in_ok-procedure.outer) there)
    c.called.ensures.body c.called.ensures.weight
