use Rattle.std.proofs.Common.{◌∙◌, subst, sym}
use Rattle.occ_run.specs.Held.{IsHeld}
use Rattle.occ_run.specs.declared.tokens.Known.{Known}
use Rattle.occ_run.proofs.Desks.{held_ended}
use Rattle.occ_run.proofs.desk.Desk.ended.Goals as goal

pub invariant_of-self : goal.invariant_of-self
invariant_of-self g c =
    let kept = c.end-token.ensures.kept in
    let u = g.U.OneRun in
    (kept.0 ∙ c.self.invariant.0, subst (λ (v : Known). IsHeld u.program u.keyboard u.limit c.self.inside.progress v) (sym kept.1) (held_ended _ _ _ _ _ c.self.invariant.1 c.in-None.ensures.over), c.self.invariant.2)
