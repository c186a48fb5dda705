use Rattle.std.proofs.Common.{◌≡◌, ◌∙◌, ap, sym, length, Some, arith}
use Rattle.std.specs.Prelude.{unwrap_or}
use Rattle.occ_term.specs.Frames.{place_among, place_in}
use Rattle.occ_term.proofs.FrameWrites.{place_among_within}
use Rattle.occ_term.proofs.frame_cells.FrameCells.place_among.Goals as goal

pub returns-in-Some-clause-within : goal.returns-in-Some-clause-within
returns-in-Some-clause-within c =
    let there : place_in c.args.self.now c.args.cell ≡ Some c.in-Some.place = ap (place_in c.args.self.now) (sym c.from.ensures) ∙ sym c.place_of.ensures.is ∙ c.in-Some.is in
    let same : place_among c.args.self.now c.args.cell ≡ c.in-Some.place = ap (λ o. unwrap_or o (length c.args.self.now)) there in
    let within = place_among_within c.args.self.now c.args.cell in
    omega (arith, same, within)
