use Rattle.occ_choices.specs.Plans.{choices_of}
use Rattle.occ_play.proofs.Headline.{ran_alone}
use Rattle.occ_play.proofs.playing.answered.Goals as goal

pub told-requires : goal.told-requires
told-requires c = ran_alone c.in_ok-code.outcome c.in_ok-code.ensures.ran

pub returns-clause-answer : goal.returns-clause-answer
returns-clause-answer c = (c.in_ok-played.ensures.answer (choices_of c.args.plan.now) c.in_ok-code.ensures.ran.is).0
