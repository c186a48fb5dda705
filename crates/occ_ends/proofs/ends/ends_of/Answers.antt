use Rattle.std.proofs.Common.{refl}
use Rattle.occ_ends.proofs.Marking.{ends_are}
use Rattle.occ_ends.proofs.ends.ends_of.Goals as goal

pub returns : goal.returns
returns c = λ p keyboard net h.
    record {
      readers = ends_are c.args.channels refl c.in_ok-readers.ensures (c.mark_all.ensures.readers p keyboard net h);
      writers = ends_are c.args.channels refl c.in_ok-writers.ensures (c.mark_all.ensures.writers p keyboard net h);
    }
