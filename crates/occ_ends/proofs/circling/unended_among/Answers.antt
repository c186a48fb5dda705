use Rattle.std.proofs.Common.{◌≡◌, ◌∙◌, ◌∷◌, ◌++◌, [], ap, append-nil, rules, sym}
use Rattle.occ_ends.specs.Ends.{unended_among}
use Rattle.occ_ends.proofs.Leaving.{is_empty}
use Rattle.occ_ends.proofs.LeftOnes.{unended_step}
use Rattle.occ_ends.proofs.circling.unended_among.Goals as goal

pub loop-branch-preserved : goal.loop-branch-preserved
loop-branch-preserved c = λ p keyboard net h.
    let rest : c.loop-branch.rest.now ≡ c.in-Some.branch.now ∷ c.in-Some.later.now = search rules in
    unended_step net.tasks c.in-Some.branch.now c.in-Some.later.now c.loop-branch.others.items _ _ (c.in_ok-add_unended.ensures p keyboard net h)
    (ap (λ l. c.loop-branch.others.items ++ unended_among net.tasks l) (sym rest) ∙ c.loop-branch.invariant p keyboard net h)

pub returns : goal.returns
returns c = λ p keyboard net h.
    let none : c.loop-branch.rest.now ≡ [] = is_empty c.loop-branch.rest.now c.in_default.ensures.cases in
    sym (append-nil c.loop-branch.others.items) ∙ ap (λ l. c.loop-branch.others.items ++ unended_among net.tasks l) (sym none) ∙ c.loop-branch.invariant p keyboard net h
