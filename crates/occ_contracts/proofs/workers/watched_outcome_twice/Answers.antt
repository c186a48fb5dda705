use Rattle.occ_contracts.proofs.Gathering.{outcome_published_alike, watched_told_alike}
use Rattle.occ_contracts.proofs.Outcomes.{are_bytes}
use Rattle.occ_contracts.proofs.workers.watched_outcome_twice.Goals as goal

pub returns-clause-told : goal.returns-clause-told
returns-clause-told g c =
    let bytes = are_bytes c.args.keyboard.now (λ k. (c.type_inv.keyboard k).fits) in
    watched_told_alike c.args.code.now c.args.keyboard.now c.args.limit c.compiled.ensures bytes c.ranges.limit.fits _ _ c.run_watched.ensures.run c.run_watched-2.ensures.run

pub returns-clause-published : goal.returns-clause-published
returns-clause-published g c =
    let one = c.run_watched.ensures in
    let other = c.run_watched-2.ensures in
    outcome_published_alike c.args.code.now c.args.keyboard.now c.args.limit _ c.args.one c.args.other c.requires.same _ _ one.run other.run one.shown other.shown
