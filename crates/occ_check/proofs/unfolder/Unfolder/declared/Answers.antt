use Rattle.std.proofs.Common.{rules, arith, ◌≡◌, ◌+◌, ◌++◌, ◌∙◌, ap, map}
use Rattle.std.proofs.lemmas.List.{map-append}
use Rattle.occ_tree_grammar.specs.Processes.Trees.{decls}
use Rattle.occ_tree_grammar.specs.Processes.Views.{decl_of}
use Rattle.occ_term.specs.View.{declaration_of, declarations_of}
use Rattle.occ_check_meaning.specs.Recursion.{all_declared}
use Rattle.occ_check.specs.Progress.{counted, innermost_at, meant_innermost}
use Rattle.occ_check_lines.specs.View.{Refuses}
use Rattle.occ_check.specs.Weights.{decls_size, weight}
use Rattle.occ_check_lines.proofs.Refusals.{refused_with}
use Rattle.occ_check.proofs.EnteringScopes.{declares_first, declares_last, declares_next, declares_refused, one_lighter}
use Rattle.occ_check.proofs.unfolder.Unfolder.declared.Goals as goal

pub loop-declaration-init : goal.loop-declaration-init
loop-declaration-init c =
    let u = c.args.self.now in
    (declares_first c.args.depth c.args.declarations.now (declarations_of c.new-heads.result) (meant_innermost u) (counted u) (ap declarations_of c.new-heads.ensures), search rules, omega arith, omega arith)

pub returns-in_err-more-clause-entered : goal.returns-in_err-more-clause-entered
returns-in_err-more-clause-entered c =
    let u = c.args.self.now in
    let refused : Refuses c.in_err-more.field-0.0 (all_declared (decls (map decl_of c.args.declarations.now)) (meant_innermost u) c.args.depth (counted u)) =
    refused_with c.in_err-more.field-0.0 _ _ (declares_refused c.loop-declaration.invariant.0 c.declaration-item.result c.loop-declaration-test.true c.declaration-item.is) c.in_err-more.ensures.entered in
    search rules

pub loop-declaration-preserved : goal.loop-declaration-preserved
loop-declaration-preserved c =
    let before = c.loop-declaration.invariant in
    let more = c.in_ok-more.ensures in
    let both : declarations_of c.append.new.self ≡ declarations_of c.loop-declaration.heads ++ declarations_of c.in_ok-more.more =
    ap declarations_of c.in_ok-append.ensures ∙ map-append declaration_of c.loop-declaration.heads c.in_ok-more.more in (
      declares_next before.0 c.declaration-item.result c.loop-declaration-test.true c.declaration-item.is (declarations_of c.in_ok-more.more) (declarations_of c.append.new.self)
          (meant_innermost c.one_declared.new.self) (counted c.one_declared.new.self) more.entered both,
      λ n h. more.kept n (omega (arith, h, before.2)) ∙ before.1 n h,
      omega (arith, more.more, before.2),
      one_lighter c.args.declarations.now c.loop-declaration.declaration-index c.declaration-item.result (weight (innermost_at c.loop-declaration.self)) (weight (innermost_at c.one_declared.new.self))
          (decls_size (decls (map decl_of c.args.declarations.now)) + weight (innermost_at c.args.self.now)) c.loop-declaration-test.true c.declaration-item.is more.weight before.3,
    )

pub returns-clause-entered : goal.returns-clause-entered
returns-clause-entered c = declares_last c.loop-declaration.invariant.0 c.loop-declaration-test.false

pub returns-clause-weight : goal.returns-clause-weight
returns-clause-weight c = let before = c.loop-declaration.invariant.3 in omega (arith, before)
