use Rattle.std.proofs.Common.{arith, rules, ◌≡◌, ◌∙◌, ◌+◌, ◌≤◌, Some, ap, map, reverse, sym}
use Rattle.occ_tree_grammar.specs.Processes.Trees.{decls}
use Rattle.occ_tree_grammar.specs.Processes.Views.{decl_of, process_of}
use Rattle.occ_term.specs.View.{declarations_of}
use Rattle.occ_check_meaning.specs.Actions.{headed, opening}
use Rattle.occ_check_meaning.specs.Recursion.{unfolded}
use Rattle.occ_check_lines.specs.View.{Refuses, innermost, scope_in}
use Rattle.occ_check_lines.proofs.Refusals.{refused_with}
use Rattle.occ_check.specs.Opened.{left_weight, put, step_weight}
use Rattle.occ_check.specs.Progress.{counted, innermost_at, meant_at, scope_at, weight_at}
use Rattle.occ_check.specs.Opening.{statement_size}
use Rattle.occ_check.proofs.OpeningSteps.{heads_refused, opening_refused, smaller, statement_behind}
use Rattle.occ_check.proofs.opening.process_opened.Goals as goal

pub returns-in_err-heads-clause-step : goal.returns-in_err-heads-clause-step
returns-in_err-heads-clause-step c =
    let refused : Refuses c.in_err-heads.field-0.0 (unfolded (process_of c.args.process.now) (meant_at c.args.unfolder.now c.args.here.at) c.args.here.depth (counted c.args.unfolder.now)) =
    refused_with c.in_err-heads.field-0.0 _ _
    (heads_refused c.args.process.now (scope_at c.args.unfolder.now c.args.here.at) (innermost (reverse c.open.new.self.blocks.items)) c.args.here.depth (counted c.args.unfolder.now)
    (decls (map decl_of c.declarations_of.result.now)) c.line_of-line.result c.statement_of-statement.result.now c.declarations_of.ensures c.line_of-line.ensures c.statement_of-statement.ensures c.in_ok-open.ensures.scope)
    c.in_err-heads.ensures.entered in
    search rules

pub returns-in_err-depth-clause-step : goal.returns-in_err-depth-clause-step
returns-in_err-depth-clause-step c =
    let refused : Refuses c.in_err-depth.field-0.0 (unfolded (process_of c.args.process.now) (meant_at c.args.unfolder.now c.args.here.at) c.args.here.depth (counted c.args.unfolder.now)) =
    refused_with c.in_err-depth.field-0.0 _ _
    (opening_refused c.args.process.now (scope_at c.args.unfolder.now c.args.here.at) (innermost (reverse c.open.new.self.blocks.items)) c.args.here.depth (counted c.args.unfolder.now)
    (decls (map decl_of c.declarations_of.result.now)) c.line_of-line.result c.statement_of-statement.result.now c.declarations_of.ensures c.line_of-line.ensures c.statement_of-statement.ensures c.in_ok-open.ensures.scope
    (declarations_of c.in_ok-heads.heads) (counted c.declared.new.self) (innermost_at c.declared.new.self) (scope_at c.declared.new.self c.end-at.result) c.end-at.ensures.scope
    c.in_ok-heads.ensures.entered)
    (rw c.as_slice.ensures at c.in_err-depth.ensures.opening) in
    search rules

pub returns-in_err-opened-clause-step : goal.returns-in_err-opened-clause-step
returns-in_err-opened-clause-step c =
    let opens : opening (declarations_of c.in_ok-heads.heads) c.args.here.depth (counted c.declared.new.self) ≡ Some (c.in_ok-depth.depth, counted c.opened.new.self) = rw c.as_slice.ensures at c.in_ok-depth.ensures.opening in
    let refused : Refuses c.in_err-opened.field-0.0 (unfolded (process_of c.args.process.now) (meant_at c.args.unfolder.now c.args.here.at) c.args.here.depth (counted c.args.unfolder.now)) =
    refused_with c.in_err-opened.field-0.0 _ _
    (λ none. statement_behind c.args.process.now (scope_at c.args.unfolder.now c.args.here.at) (innermost (reverse c.open.new.self.blocks.items)) c.args.here.depth (counted c.args.unfolder.now)
    (decls (map decl_of c.declarations_of.result.now)) c.line_of-line.result c.statement_of-statement.result.now c.declarations_of.ensures c.line_of-line.ensures c.statement_of-statement.ensures c.in_ok-open.ensures.scope
    (declarations_of c.in_ok-heads.heads) (counted c.declared.new.self) (innermost_at c.declared.new.self) (scope_at c.opened.new.self c.end-at.result)
    (ap (λ f. scope_in (reverse f.blocks.items) c.end-at.result) c.in_ok-depth.ensures.kept ∙ c.end-at.ensures.scope)
    c.in_ok-heads.ensures.entered c.in_ok-depth.depth (counted c.opened.new.self) opens
    ∙ ap (put (headed (declarations_of c.in_ok-heads.heads))) none)
    c.in_err-opened.ensures.opens in
    search rules

pub returns-clause-step : goal.returns-clause-step
returns-clause-step c =
    let opens : opening (declarations_of c.in_ok-heads.heads) c.args.here.depth (counted c.declared.new.self) ≡ Some (c.in_ok-depth.depth, counted c.opened.new.self) = rw c.as_slice.ensures at c.in_ok-depth.ensures.opening in
    statement_behind c.args.process.now (scope_at c.args.unfolder.now c.args.here.at) (innermost (reverse c.open.new.self.blocks.items)) c.args.here.depth (counted c.args.unfolder.now)
    (decls (map decl_of c.declarations_of.result.now)) c.line_of-line.result c.statement_of-statement.result.now c.declarations_of.ensures c.line_of-line.ensures c.statement_of-statement.ensures c.in_ok-open.ensures.scope
    (declarations_of c.in_ok-heads.heads) (counted c.declared.new.self) (innermost_at c.declared.new.self) (scope_at c.opened.new.self c.end-at.result)
    (ap (λ f. scope_in (reverse f.blocks.items) c.end-at.result) c.in_ok-depth.ensures.kept ∙ c.end-at.ensures.scope)
    c.in_ok-heads.ensures.entered c.in_ok-depth.depth (counted c.opened.new.self) opens
    ∙ ap (put (headed (declarations_of c.in_ok-heads.heads))) c.in_ok-opened.ensures.opens
    ∙ sym (c.behind.ensures.left c.statement_opened.new.unfolder)

pub returns-clause-weight : goal.returns-clause-weight
returns-clause-weight c =
    let u = c.statement_opened.new.unfolder in
    let less = smaller c.args.process.now (scope_at c.args.unfolder.now c.args.here.at) (innermost (reverse c.open.new.self.blocks.items)) (scope_at c.opened.new.self c.end-at.result) (innermost_at c.declared.new.self)
    (decls (map decl_of c.declarations_of.result.now)) c.statement_of-statement.result.now c.declarations_of.ensures c.statement_of-statement.ensures c.in_ok-open.ensures.scope
    (ap (λ f. scope_in (reverse f.blocks.items) c.end-at.result) c.in_ok-depth.ensures.kept ∙ c.end-at.ensures.scope) c.in_ok-heads.ensures.weight in
    let same : step_weight u c.behind.result ≡ left_weight u c.in_ok-opened.opened = c.behind.ensures.weight u in
    let light : left_weight u c.in_ok-opened.opened ≤ statement_size c.statement_of-statement.result.now + weight_at c.opened.new.self c.end-at.result = c.in_ok-opened.ensures.weight in
    omega (arith, less, same, light)
