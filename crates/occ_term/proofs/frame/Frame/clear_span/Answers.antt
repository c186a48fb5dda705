use Rattle.std.proofs.Common.{◌≡◌, ◌∙◌, sym, ap, List, ℤ, length, arith, replicate, pos}
use Rattle.std.proofs.lemmas.List.{with_items_is}
use Rattle.occ_term.specs.Frames.{Variables, span_with, frame_from}
use Rattle.occ_term.proofs.FrameWrites.{frame_from_is}
use Rattle.occ_term.proofs.frame.Frame.clear_span.Goals as goal

pub returns : goal.returns
returns c =
    let before : Variables = record { cells = c.self.inside.cells; values = c.self.inside.values.items; left = c.self.inside.left.items } in
    let held : c.clear_values.new.held ≡ span_with before.cells before.values c.args.first (replicate c.args.count (pos 0)) =
    c.clear_values.ensures ∙ ap (λ ws. span_with c.self.inside.cells ws c.args.first (replicate c.args.count (pos 0))) c.deref_mut.ensures.value in
    let long : length c.clear_values.new.held ≡ c.self.inside.values.len = omega (arith, ap length c.deref_mut.ensures.value, c.self.inside.values.ok.0) in
    let with_values : List ℤ → Variables = λ ws. record before { values = ws } in
    ap with_values (with_items_is c.self.inside.values c.clear_values.new.held long ∙ held) ∙ sym (frame_from_is (replicate c.args.count (pos 0)) c.args.first before) ∙ ap (frame_from c.args.first (replicate c.args.count (pos 0))) c.self.view_is
