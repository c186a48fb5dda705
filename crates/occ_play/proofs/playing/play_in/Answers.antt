use Rattle.std.proofs.Common.{sym, subst}
use Rattle.occ_choices.specs.Plans.{choices_of}
use Rattle.occ_play.specs.Playing.{IsAnswer}
use Rattle.occ_play.proofs.playing.play_in.Goals as goal

pub returns-in-Err-clause-fault : goal.returns-in-Err-clause-fault
returns-in-Err-clause-fault g c =
    (c.in-Err.ensures.failed, (c.as_slice.result.now, (c.in_ok-played.played, subst (λ b. IsAnswer c.args.options.now c.args.source.now c.args.keyboard.now (choices_of c.args.plan.now) c.args.trace c.in_ok-played.played b) (sym c.as_slice.ensures.value) c.in_ok-played.ensures.answer), c.in-Err.ensures.less, c.in-Err.ensures.beginning))
