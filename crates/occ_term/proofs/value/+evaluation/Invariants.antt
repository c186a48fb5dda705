use Rattle.std.proofs.Common.{drop}
use Rattle.occ_term.specs.Frames.{at}
use Rattle.occ_term.specs.View.{place_of}
use Rattle.occ_term.specs.Evaluation.{first_named}
use Rattle.occ_term.proofs.Bounds.{Walks}
use Rattle.occ_term.proofs.value.+evaluation.Given as goal

abbrev pub invariant-first_named-loop-e : goal.invariant-first_named-loop-e
invariant-first_named-loop-e l =
    Walks (drop l.e-index l.e-items) l.place.line l.first l.sizes (at l.frame) (first_named (place_of l.place) (at l.frame))
