use Rattle.std.proofs.Common.{subst, sym}
use Rattle.occ_ends.specs.Ends.{IsRing}
use Rattle.occ_ends.proofs.Rings.{ring_of}
use Rattle.occ_ends.proofs.circling.once_round.Goals as goal

pub returns : goal.returns
returns c = λ others some circles.
    subst (IsRing others) (sym c.in_ok-ring.ensures.items) (ring_of others c.args.numbers.now c.again-first.result.0 c.again-first.result.1 circles c.again-first.ensures)
