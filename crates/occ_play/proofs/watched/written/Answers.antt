use Rattle.std.proofs.Common.{sym, subst}
use Rattle.occ_play.specs.Watching.{TellsOutcome}
use Rattle.occ_play.proofs.watched.written.Goals as goal

pub returns-in-Ok-clause-played : goal.returns-in-Ok-clause-played
returns-in-Ok-clause-played g c =
    let told = c.in_ok-played.ensures in
    let tells = subst (λ b. TellsOutcome c.args.options.now c.args.source.now c.args.keyboard.now c.args.trace c.args.code.now c.args.outcome c.in_ok-played.played b) (sym c.as_slice.ensures.value) (record { answers = told.answer; choices = told.choices; ending = told.ending }) in
    (c.as_slice.result.now, tells, c.in-Ok.ensures.whole)

pub returns-in-Err-clause-fault : goal.returns-in-Err-clause-fault
returns-in-Err-clause-fault g c =
    let told = c.in_ok-played.ensures in
    let tells = subst (λ b. TellsOutcome c.args.options.now c.args.source.now c.args.keyboard.now c.args.trace c.args.code.now c.args.outcome c.in_ok-played.played b) (sym c.as_slice.ensures.value) (record { answers = told.answer; choices = told.choices; ending = told.ending }) in
    (c.in-Err.ensures.failed, (c.as_slice.result.now, (c.in_ok-played.played, tells), c.in-Err.ensures.less, c.in-Err.ensures.beginning))
