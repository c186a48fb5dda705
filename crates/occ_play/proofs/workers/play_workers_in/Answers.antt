use Rattle.std.proofs.Common.{sym, subst}
use Rattle.occ_play.specs.Working.{IsAnswerWithin}
use Rattle.occ_play.proofs.workers.play_workers_in.Goals as goal

pub returns-in-Err-clause-fault : goal.returns-in-Err-clause-fault
returns-in-Err-clause-fault g c =
    (c.in-Err.ensures.failed, (c.as_slice.result.now, (c.in_ok-played.ensures.crew, (c.in_ok-played.played, subst (λ b. IsAnswerWithin c.args.options.now c.args.source.now c.args.keyboard.now c.args.limit c.args.trace c.in_ok-played.played b) (sym c.as_slice.ensures.value) c.in_ok-played.ensures.answer)), c.in-Err.ensures.less, c.in-Err.ensures.beginning))
