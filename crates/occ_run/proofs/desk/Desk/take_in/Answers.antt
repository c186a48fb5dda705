use Rattle.std.proofs.Common.{[], subst, ◌∙◌}
use Rattle.crossbeam_utils.specs.Seq.{cell_view}
use Rattle.occ_run.specs.Tokens.{Checked, shown_beside}
use Rattle.occ_run.specs.declared.tokens.Known.{Known}
use Rattle.occ_run.proofs.Desks.{held_done, own_done}
use Rattle.occ_run.proofs.Growing.{behind_done}
use Rattle.occ_run.proofs.desk.Desk.take_in.Goals as goal

pub take_in-requires : goal.take_in-requires
take_in-requires g c =
    let u = g.U.OneRun in
    let v : Known = cell_view c.self.inside.keeper in
    let checked : Checked (shown_beside v c.ran.inside.ticket) [] [] (cell_view c.come_back.new.all) = subst (λ (x : Known). Checked (shown_beside v x) [] [] (cell_view c.come_back.new.all)) c.ticket.view_is c.come_back.ensures.checked in
    own_done u.program u.keyboard u.limit c.self.inside.progress v c.self.invariant.1 c.replayed.ensures c.ran.inside.ticket (cell_view c.come_back.new.all) checked c.ran.inside.done c.ran.invariant

pub invariant_of-self : goal.invariant_of-self
invariant_of-self g c =
    let u = g.U.OneRun in
    let v : Known = cell_view c.self.inside.keeper in
    let checked : Checked (shown_beside v c.ran.inside.ticket) [] [] (cell_view c.come_back.new.all) = subst (λ (x : Known). Checked (shown_beside v x) [] [] (cell_view c.come_back.new.all)) c.ticket.view_is c.come_back.ensures.checked in (
      c.come_back.ensures.kept ∙ c.self.invariant.0,
      held_done u.program u.keyboard u.limit c.self.inside.progress v c.self.invariant.1 c.replayed.ensures c.ran.inside.ticket (cell_view c.come_back.new.all) checked c.take_in.new.self c.take_in.ensures.limit c.ran.inside.done c.ran.invariant c.take_in.ensures.ran c.take_in.ensures.refused,
      behind_done u.takings u.program c.self.inside.progress c.take_in.new.self c.self.inside.head c.self.inside.told c.self.invariant.2 c.ran.inside.done c.take_in.ensures.ran c.take_in.ensures.refused,
    )
