use Rattle.std.proofs.Common.{rules, ◌∙◌, ◌+◌, ap, option_map, reverse, sym}
use Rattle.occ_tree_grammar.specs.Expressions.Trees.{expression_of as tree_of}
use Rattle.occ_tree_grammar.specs.Lines.HeadViews.{guard_of}
use Rattle.occ_tree_grammar.specs.Lines.Views as lines
use Rattle.occ_tree_grammar.specs.Processes.Views.{process_of}
use Rattle.occ_term.specs.Terms as T
use Rattle.occ_term.specs.View.{declarations_of, expression_of, place_of, test_of as boolean_of}
use Rattle.occ_check_lines.specs.Action.{listed_of}
use Rattle.occ_check_meaning.specs.Actions.{arms_behind, as_reception, depth_behind}
use Rattle.occ_check_meaning.specs.Performing as performs
use Rattle.occ_check_meaning.specs.Recursion.{unfolded}
use Rattle.occ_check_meaning.specs.Scope.{names_of}
use Rattle.occ_check_meaning.specs.Meant.{meant}
use Rattle.occ_check_lines.specs.View.{Refuses, scope_in}
use Rattle.occ_check_lines.proofs.Refusals.{refused_with}
use Rattle.occ_check.specs.Opened.{put}
use Rattle.occ_check.specs.Guards.{guarding}
use Rattle.occ_check.specs.OneLine.{tested}
use Rattle.occ_check.specs.Progress.{counted, meant_at}
use Rattle.occ_check.proofs.ArmLists.{input_not_guarded, input_opens, skip_not_tested, skip_opens}
use Rattle.occ_check.proofs.OpenedParts.{put_put}
use Rattle.occ_check.proofs.arms.guard_opened.Goals as goal

pub returns-in_err-guarded-in-Input-clause-opens : goal.returns-in_err-guarded-in-Input-clause-opens
returns-in_err-guarded-in-Input-clause-opens c =
    let sc = meant_at c.args.unfolder.now c.args.here.at in
    let refused : Refuses c.in_err-guarded-in-Input.field-0.0 (put (arms_behind (declarations_of c.args.heads)) (performs.arm_of c.args.here.line (guard_of c.args.guard.now) (unfolded (process_of c.args.body.now)) sc c.args.here.depth (counted c.args.unfolder.now))) =
    refused_with c.in_err-guarded-in-Input.field-0.0 (guarding (names_of sc) c.args.here.line c.args.here.depth (option_map tree_of c.in-Input.test) (lines.input_of c.in-Input.input) (counted c.args.unfolder.now)) _
    (λ none. ap (λ g. put (arms_behind (declarations_of c.args.heads)) (performs.arm_of c.args.here.line (guard_of g) (unfolded (process_of c.args.body.now)) sc c.args.here.depth (counted c.args.unfolder.now))) c.in-Input.is
    ∙ ap (put (arms_behind (declarations_of c.args.heads))) (input_not_guarded c.args.here.line (option_map tree_of c.in-Input.test) (lines.input_of c.in-Input.input) (unfolded (process_of c.args.body.now)) sc c.args.here.depth (counted c.args.unfolder.now) none))
    c.in_err-guarded-in-Input.ensures.guard in
    search rules

pub returns-in_ok-guarded-in-Input-clause-opens : goal.returns-in_ok-guarded-in-Input-clause-opens
returns-in_ok-guarded-in-Input-clause-opens c =
    let sc = meant_at c.args.unfolder.now c.args.here.at in
    let behind = arms_behind (declarations_of c.args.heads) in
    let g = c.in_ok-guarded-in-Input.guarded in
    let p = process_of c.args.body.now in
    let m = counted c.guarding_at.new.unfolder in
    ap (λ x. put behind (performs.arm_of c.args.here.line (guard_of x) (unfolded p) sc c.args.here.depth (counted c.args.unfolder.now))) c.in-Input.is
    ∙ ap (put behind)
    (input_opens c.args.here.line (option_map tree_of c.in-Input.test) (lines.input_of c.in-Input.input) (unfolded p) sc c.args.here.depth (counted c.args.unfolder.now) (boolean_of g.test, (place_of g.channel, listed_of g.listed)) m
    c.in_ok-guarded-in-Input.ensures.guard)
    ∙ put_put behind (λ t. T.input_arm (boolean_of g.test) (place_of g.channel) (as_reception (listed_of g.listed) t) T.no_arms) (unfolded p sc (depth_behind (listed_of g.listed) (c.args.here.depth + 1)) m)
    ∙ ap (λ k. put (λ t. behind (T.input_arm (boolean_of g.test) (place_of g.channel) (as_reception (listed_of g.listed) t) T.no_arms)) (unfolded p sc k m)) (sym c.depth_behind-depth.ensures)
    ∙ ap (λ f. put (λ t. behind (T.input_arm (boolean_of g.test) (place_of g.channel) (as_reception (listed_of g.listed) t) T.no_arms)) (unfolded p (meant (scope_in (reverse f.blocks.items) c.args.here.at)) c.depth_behind-depth.result m))
    (sym c.in_ok-guarded-in-Input.ensures.kept)

pub returns-in_err-tested-in-Skip-clause-opens : goal.returns-in_err-tested-in-Skip-clause-opens
returns-in_err-tested-in-Skip-clause-opens c =
    let sc = meant_at c.args.unfolder.now c.args.here.at in
    let refused : Refuses c.in_err-tested-in-Skip.field-0.0 (put (arms_behind (declarations_of c.args.heads)) (performs.arm_of c.args.here.line (guard_of c.args.guard.now) (unfolded (process_of c.args.body.now)) sc c.args.here.depth (counted c.args.unfolder.now))) =
    refused_with c.in_err-tested-in-Skip.field-0.0 (tested (names_of sc) c.args.here.line c.args.here.depth (tree_of c.in-Skip.test) (counted c.args.unfolder.now)) _
    (λ none. ap (λ g. put (arms_behind (declarations_of c.args.heads)) (performs.arm_of c.args.here.line (guard_of g) (unfolded (process_of c.args.body.now)) sc c.args.here.depth (counted c.args.unfolder.now))) c.in-Skip.is
    ∙ ap (put (arms_behind (declarations_of c.args.heads))) (skip_not_tested c.args.here.line (tree_of c.in-Skip.test) (unfolded (process_of c.args.body.now)) sc c.args.here.depth (counted c.args.unfolder.now) none))
    c.in_err-tested-in-Skip.ensures.tested in
    search rules

pub returns-in_ok-tested-in-Skip-clause-opens : goal.returns-in_ok-tested-in-Skip-clause-opens
returns-in_ok-tested-in-Skip-clause-opens c =
    let sc = meant_at c.args.unfolder.now c.args.here.at in
    let behind = arms_behind (declarations_of c.args.heads) in
    let p = process_of c.args.body.now in
    let e = expression_of c.in_ok-tested-in-Skip.field-0 in
    let m = counted c.tested.new.self in
    ap (λ x. put behind (performs.arm_of c.args.here.line (guard_of x) (unfolded p) sc c.args.here.depth (counted c.args.unfolder.now))) c.in-Skip.is
    ∙ ap (put behind) (skip_opens c.args.here.line (tree_of c.in-Skip.test) (unfolded p) sc c.args.here.depth (counted c.args.unfolder.now) e m c.in_ok-tested-in-Skip.ensures.tested)
    ∙ put_put behind (λ t. T.skip_arm e t T.no_arms) (unfolded p sc (c.args.here.depth + 1) m)
    ∙ ap (λ f. put (λ t. behind (T.skip_arm e t T.no_arms)) (unfolded p (meant (scope_in (reverse f.blocks.items) c.args.here.at)) (c.args.here.depth + 1) m)) (sym c.in_ok-tested-in-Skip.ensures.kept)
