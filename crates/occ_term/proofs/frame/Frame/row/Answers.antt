use Rattle.std.proofs.Common.{◌∙◌, ap, subst, drop, take, length, ◌+◌, ◌≤◌}
use Rattle.occ_term.specs.Frames.{Variables, at}
use Rattle.occ_term.specs.Values.{values_from}
use Rattle.occ_term.proofs.FrameWrites.{row_values}
use Rattle.occ_term.proofs.frame.Frame.row.Goals as goal

pub returns : goal.returns
returns c =
    let within = subst (λ vs. c.in_ok-place.place + c.args.count ≤ length vs) c.deref.ensures.value c.in_ok-values.ensures.1 in
    c.in_ok-values.ensures.0 ∙ ap (λ vs. take c.args.count (drop c.in_ok-place.place vs)) c.deref.ensures.value
    ∙ row_values c.self.inside.cells c.self.inside.values.items c.args.first c.in_ok-place.place c.args.count c.in_ok-place.ensures.row within
    ∙ ap (λ (f : Variables). values_from c.args.first c.args.count (at f)) c.self.view_is
