use Rattle.std.proofs.Common.{◌≡◌, ◌∙◌, sym, ap, List, ℤ, Some, None, length, arith, w64, to_z, of_z}
use Rattle.std.specs.Prelude.{slice_set}
use Rattle.std.proofs.lemmas.Int.{to_z-of_z}
use Rattle.std.proofs.lemmas.List.{with_items_is}
use Rattle.occ_term.specs.Frames.{Variables, frame_with, values_with}
use Rattle.occ_term.proofs.FrameWrites.{with_there}
use Rattle.occ_term.proofs.frame.Frame.set.Goals as goal

pub returns-in-Some : goal.returns-in-Some
returns-in-Some c =
    let before : Variables = record { cells = c.self.inside.cells; values = c.self.inside.values.items; left = c.self.inside.left.items } in
    let held : c.put_in.new.values ≡ values_with before.cells before.values c.args.cell c.args.value =
    c.put_in.ensures ∙ ap (λ ws. slice_set ws c.in-Some.place (to_z w64 (of_z w64 c.args.value))) c.deref_mut.ensures.value ∙ ap (slice_set c.self.inside.values.items c.in-Some.place) (to_z-of_z w64 c.args.value c.ranges.value)
    ∙ sym (with_there before.cells before.values c.args.cell c.args.value (Some c.in-Some.place) (sym c.in-Some.is ∙ c.place_of.ensures.is)) in
    let long : length c.put_in.new.values ≡ c.self.inside.values.len = omega (arith, ap length c.deref_mut.ensures.value, c.self.inside.values.ok.0) in
    let with_values : List ℤ → Variables = λ ws. record before { values = ws } in
    ap with_values (with_items_is c.self.inside.values c.put_in.new.values long ∙ held) ∙ ap (λ (f : Variables). frame_with f c.args.cell c.args.value) c.self.view_is

pub returns-in_default : goal.returns-in_default
returns-in_default c =
    let before : Variables = record { cells = c.self.inside.cells; values = c.self.inside.values.items; left = c.self.inside.left.items } in
    let with_values : List ℤ → Variables = λ ws. record before { values = ws } in
    sym c.self.view_is
    ∙ ap with_values (sym (with_there before.cells before.values c.args.cell c.args.value None (sym c.in_default.is ∙ c.place_of.ensures.is)))
    ∙ ap (λ (f : Variables). frame_with f c.args.cell c.args.value) c.self.view_is
