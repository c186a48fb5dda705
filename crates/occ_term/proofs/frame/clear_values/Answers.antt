use Rattle.std.proofs.Common.{◌≡◌, ◌∙◌, ◌+◌, ◌<◌, ℕ, Some, pos, replicate, subst, arith}
use Rattle.std.proofs.lemmas.List.{length-replicate}
use Rattle.occ_term.specs.Frames.{place_in}
use Rattle.occ_term.proofs.FrameWrites.{row_span}
use Rattle.occ_term.proofs.frame.clear_values.Goals as goal

pub returns-in-Some : goal.returns-in-Some
returns-in-Some c =
    let long = length-replicate c.args.count (pos 0) in
    let row : (k : ℕ) → k < c.args.count → place_in c.args.cells.now (c.args.first + k) ≡ Some (c.in-Some.place + k) =
    subst (λ n. (k : ℕ) → k < c.args.count → place_in c.args.cells.now (n + k) ≡ Some (c.in-Some.place + k)) c.from.ensures c.in-Some.ensures.row in
    c.clear_row.ensures ∙ row_span c.args.cells.now c.args.held.now (replicate c.args.count (pos 0)) c.args.first c.in-Some.place (λ k h. row k (omega (arith, h, long)))
