use Rattle.std.proofs.Common.{rules, w64, ℤ, ◌≡◌, ◌∙◌, ◌+◌, ap, subst, sym}
use Rattle.std.proofs.lemmas.Int.{to_z-of_z}
use Rattle.occ_tree_grammar.specs.Lines.Views as lines
use Rattle.occ_tree_grammar.specs.Processes.Views.{process_of}
use Rattle.occ_term.specs.Terms as T
use Rattle.occ_check_meaning.specs.Declarations.{index_of}
use Rattle.occ_check_meaning.specs.Recursion.{unfolded}
use Rattle.occ_check_meaning.specs.Scope.{within}
use Rattle.occ_check_lines.specs.View.{Refuses, numbers_of}
use Rattle.occ_check.specs.Opened.{copy_for, put}
use Rattle.occ_check.specs.Copies.{numbered_copy}
use Rattle.occ_check.specs.Progress.{counted, meant_at}
use Rattle.occ_check.specs.Weights.{node_size}
use Rattle.occ_check.proofs.CopyLists.{copy_opens, no_number_left}
use Rattle.occ_check.proofs.copies.copy_opened.Goals as goal

pub returns-in_err-number-clause-opens : goal.returns-in_err-number-clause-opens
returns-in_err-number-clause-opens c =
    let u = copy_for (lines.replicator_of c.args.replicator.now) (process_of c.args.body.now) (meant_at c.args.unfolder.now c.args.here.at) c.args.here.depth in
    let refused : Refuses c.in_err-number.field-0.0 (numbered_copy u c.args.value (counted c.args.unfolder.now)) = no_number_left u c.args.value (counted c.args.unfolder.now) _ c.in_err-number.ensures.counts in
    search rules

pub returns-clause-opens : goal.returns-clause-opens
returns-clause-opens c =
    let r = lines.replicator_of c.args.replicator.now in
    let p = process_of c.args.body.now in
    let u = copy_for r p (meant_at c.args.unfolder.now c.args.here.at) c.args.here.depth in
    let scope : meant_at c.at_value.new.unfolder c.in_ok-at.at ≡ within (index_of r c.args.value) (meant_at c.args.unfolder.now c.args.here.at) =
    subst (λ (v : ℤ). meant_at c.at_value.new.unfolder c.in_ok-at.at ≡ within (index_of r v) (meant_at c.args.unfolder.now c.args.here.at)) (to_z-of_z w64 c.args.value c.ranges.value) c.in_ok-at.ensures.scope in
    copy_opens u c.args.value (counted c.args.unfolder.now) (numbers_of c.more_processes.new.self) c.in_ok-number.ensures.counts
    ∙ ap (λ sc. put (λ t. T.and_branch (counted c.args.unfolder.now).processes t) (unfolded p sc c.args.here.depth (numbers_of c.more_processes.new.self))) (sym scope)
    ∙ ap (λ n. put (λ t. T.and_branch (counted c.args.unfolder.now).processes t) (unfolded p (meant_at c.at_value.new.unfolder c.in_ok-at.at) c.args.here.depth (numbers_of n))) (sym c.in_ok-at.ensures.numbers)
    ∙ ap (λ k. put (λ t. T.and_branch k t) (unfolded p (meant_at c.at_value.new.unfolder c.in_ok-at.at) c.args.here.depth (counted c.at_value.new.unfolder))) (search rules)

pub returns-clause-weight : goal.returns-clause-weight
returns-clause-weight c = ap (λ w. node_size (process_of c.args.body.now) + w) c.in_ok-at.ensures.weight
