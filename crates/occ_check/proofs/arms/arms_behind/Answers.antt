use Rattle.std.proofs.Common.{◌≡◌, ◌∙◌, rules}
use Rattle.occ_term.specs.Terms.{declared_arms, no_arms}
use Rattle.occ_term.specs.View.{arms_of, declaration_of}
use Rattle.occ_term.specs.declared.term.Arm.{the_lemmas}
use Rattle.occ_check.proofs.ArmLists.{outwards_step}
use Rattle.occ_check.proofs.arms.arms_behind.Goals as goal

pub outwards-preserved : goal.outwards-preserved
outwards-preserved c =
    let made : arms_of c.in_ok-arms.arms ≡ declared_arms (declaration_of c.in-Some.head) (arms_of c.outwards.arms) no_arms = c.in_ok-arms.ensures ∙ search (rules, the_lemmas) in
    outwards_step c.pop.new.self c.outwards.heads c.in-Some.head c.outwards.arms c.in_ok-arms.arms c.in-Some.ensures made ∙ c.outwards.invariant
