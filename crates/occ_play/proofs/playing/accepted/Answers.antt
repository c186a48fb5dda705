use Rattle.std.proofs.Common.{sym, subst}
use Rattle.occ_play.specs.Playing.{Unfolds, UsageRefusesText}
use Rattle.occ_play.proofs.Headline.{usage_refuses}
use Rattle.occ_play.proofs.playing.accepted.Goals as goal

pub returns-in-Err-clause-refused : goal.returns-in-Err-clause-refused
returns-in-Err-clause-refused c =
    let unfolds = subst (λ u. Unfolds c.args.source.now u) (sym c.in-Err.ensures.refused.0) c.in_ok-unfolded.ensures.found in
    subst (λ f. UsageRefusesText f c.args.source.now) (sym c.reason.ensures) (usage_refuses c.in-Err.refused.unfolded c.in-Err.refused.fault unfolds c.in-Err.ensures.refused.1)
