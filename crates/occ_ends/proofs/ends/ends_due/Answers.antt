use Rattle.occ_ends.proofs.Marking.{due_are}
use Rattle.occ_ends.proofs.ends.ends_due.Goals as goal

pub returns : goal.returns
returns c = λ p keyboard net h.
    record {
      readers = due_are c.args.channels c.in_ok-readers.ensures (c.mark_all.ensures.readers p keyboard net h) c.mark_last.ensures.readers;
      writers = due_are c.args.channels c.in_ok-writers.ensures (c.mark_all.ensures.writers p keyboard net h) c.mark_last.ensures.writers;
    }
