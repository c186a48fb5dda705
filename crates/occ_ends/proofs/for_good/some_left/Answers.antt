use Rattle.std.proofs.Common.{rules, ◌≡◌, ◌∙◌, ◌∷◌, [], sym}
use Rattle.occ_ends.proofs.Leaving.{is_empty, left_here, left_next, left_none, none_left}
use Rattle.occ_ends.proofs.for_good.some_left.Goals as goal

pub loop-branch-preserved : goal.loop-branch-preserved
loop-branch-preserved c = λ p keyboard net h.
    let split : c.loop-branch.rest.now ≡ c.in-Some.branch.now ∷ c.in-Some.others.now = search rules in
    left_next net.tasks c.args.flags.now c.in-Some.branch.now c.loop-branch.rest.now c.in-Some.others.now c.args.branches.now split (sym (c.is_left.ensures p keyboard net h) ∙ c.if-is_left.false) (c.loop-branch.invariant p keyboard net h)

pub returns-then-is_left : goal.returns-then-is_left
returns-then-is_left c = λ p keyboard net h.
    let split : c.loop-branch.rest.now ≡ c.in-Some.branch.now ∷ c.in-Some.others.now = search rules in
    left_here net.tasks c.args.flags.now c.in-Some.branch.now c.loop-branch.rest.now c.in-Some.others.now c.args.branches.now split (sym (c.is_left.ensures p keyboard net h) ∙ c.if-is_left.true) (c.loop-branch.invariant p keyboard net h)

pub returns : goal.returns
returns c = λ p keyboard net h.
    let end : c.loop-branch.rest.now ≡ [] = is_empty c.loop-branch.rest.now (none_left _ c.split_first.result c.split_first.ensures.cases c.in_default.not-Some) in
    left_none net.tasks c.args.flags.now c.loop-branch.rest.now c.args.branches.now end (c.loop-branch.invariant p keyboard net h)
