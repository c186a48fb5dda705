use Rattle.std.proofs.Common.{◌-◌, ◌≡◌, ◌≤◌, length}
use Rattle.std.specs.Io.KnownBytes.{Keeps}
use Rattle.occ_files.specs.Reading.{breaks_of, failures_of, reader_of}
use Rattle.occ_files.proofs.reader.CountedReader.read_some.Given as goal

abbrev pub invariant-loop-self : goal.invariant-loop-self
invariant-loop-self g l = record {
  room : length l.bytes ≡ length l.initial.bytes;
  kept : Keeps (g.R.Read.remaining (reader_of l.initial.self)) (g.R.Read.remaining (reader_of l.self));
  unbroken : breaks_of l.self ≡ breaks_of l.initial.self;
  counted : failures_of l.initial.self ≤ failures_of l.self;
}

abbrev pub decreases-loop-self : goal.decreases-loop-self
decreases-loop-self g l = 18446744073709551615 - l.self.failed
