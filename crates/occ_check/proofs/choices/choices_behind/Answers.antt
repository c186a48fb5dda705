use Rattle.std.proofs.Common.{◌≡◌, ◌∙◌, rules}
use Rattle.occ_term.specs.Terms.{declared_choices, no_choices}
use Rattle.occ_term.specs.View.{choices_of, declaration_of}
use Rattle.occ_term.specs.declared.term.Choice.{the_lemmas}
use Rattle.occ_check.proofs.ChoiceLists.{outwards_step}
use Rattle.occ_check.proofs.choices.choices_behind.Goals as goal

pub outwards-preserved : goal.outwards-preserved
outwards-preserved c =
    let made : choices_of c.in_ok-choices.choices ≡ declared_choices (declaration_of c.in-Some.head) (choices_of c.outwards.choices) no_choices = c.in_ok-choices.ensures ∙ search (rules, the_lemmas) in
    outwards_step c.pop.new.self c.outwards.heads c.in-Some.head c.outwards.choices c.in_ok-choices.choices c.in-Some.ensures made ∙ c.outwards.invariant
