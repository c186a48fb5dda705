use Rattle.std.proofs.Common.{sym, ap, ◌∙◌, Some, None, rules, w64}
use Rattle.std.proofs.lemmas.Int.{to_z-of_z}
use Rattle.occ_term.specs.Frames.{Variables, at}
use Rattle.occ_term.proofs.FrameWrites.{read_at, value_there}
use Rattle.occ_term.proofs.frame.Frame.value_at.Goals as goal

pub returns-in-Some : goal.returns-in-Some
returns-in-Some c =
    to_z-of_z w64 c.value_in.result (search rules) ∙ c.value_in.ensures ∙ ap (λ vs. read_at (Some c.in-Some.place) vs) c.deref.ensures.value
    ∙ sym (value_there c.self.inside.cells c.self.inside.values.items c.args.cell (Some c.in-Some.place) (sym c.in-Some.is ∙ c.place_of.ensures.is))
    ∙ ap (λ (f : Variables). at f c.args.cell) c.self.view_is

pub returns-in-None : goal.returns-in-None
returns-in-None c =
    sym (value_there c.self.inside.cells c.self.inside.values.items c.args.cell None (sym c.in-None.is ∙ c.place_of.ensures.is))
    ∙ ap (λ (f : Variables). at f c.args.cell) c.self.view_is
