use Rattle.std.proofs.Common.{◌∙◌, subst, sym, true}
use Rattle.occ_run.specs.Held.{IsHeld}
use Rattle.occ_run.specs.declared.tokens.Known.{Known}
use Rattle.occ_run.proofs.Desks.{held_leaves, held_rests, out_apart, out_held}
use Rattle.occ_run.proofs.Growing.{behind_marked, behind_same}
use Rattle.occ_run.proofs.desk.Desk.next.Goals as goal

pub go_out-token-requires-clause-other : goal.go_out-token-requires-clause-other
go_out-token-requires-clause-other g c = out_apart _ _ _ _ c.next.new.self _ c.self.invariant.1 c.replayed.ensures c.in-Run.ensures.limit c.in-Run.lease c.in-Run.ensures.step

pub invariant_of-self : goal.invariant_of-self
invariant_of-self g c =
    let kept = c.go_out-token.ensures in
    let u = g.U.OneRun in (
      kept.same ∙ c.self.invariant.0,
      subst (λ (v : Known). IsHeld u.program u.keyboard u.limit c.next.new.self v) (sym kept.kept)
          (out_held _ _ _ _ c.next.new.self _ c.self.invariant.1 c.replayed.ensures c.in-Run.ensures.limit c.in-Run.lease c.in-Run.ensures.step),
      behind_marked _ _ _ _ _ c.self.invariant.2 _ c.in-Run.lease.task.number true (c.in-Run.ensures.step.leases c.replayed.ensures.net c.replayed.ensures.state).out,
    )

pub invariant_of-self-in-Rest : goal.invariant_of-self-in-Rest
invariant_of-self-in-Rest g c = (c.self.invariant.0, held_rests _ _ _ _ _ _ c.self.invariant.1 c.replayed.ensures c.in-Rest.ensures.limit c.in-Rest.ensures.step, behind_same _ _ _ _ _ c.self.invariant.2 _ (c.in-Rest.ensures.step.leases c.replayed.ensures.net c.replayed.ensures.state).1)

pub invariant_of-self-in-Leave : goal.invariant_of-self-in-Leave
invariant_of-self-in-Leave g c = (c.self.invariant.0, held_leaves _ _ _ _ _ _ c.self.invariant.1 c.replayed.ensures c.in-Leave.ensures.limit c.in-Leave.ensures.step, behind_same _ _ _ _ _ c.self.invariant.2 _ c.in-Leave.ensures.step.network)
