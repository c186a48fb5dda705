use Rattle.std.proofs.Common.{◌-◌, ◌≡◌, ◌^◌, ◌<◌, ◌≤◌, length}
use Rattle.std.specs.Io.KnownBytes.{Consumes}
use Rattle.occ_files.specs.Reading.{breaks_of, failures_of, reader_of}
use Rattle.occ_files.proofs.reader.whole.read_input.Given as goal

abbrev pub invariant-loop-buffer : goal.invariant-loop-buffer
invariant-loop-buffer g l = record {
  few : length l.bytes.items ≤ l.most;
  read : Consumes (g.R.Read.remaining (reader_of l.initial.reader)) (g.R.Read.remaining (reader_of l.reader)) l.bytes.items;
  unbroken : breaks_of l.reader ≡ breaks_of l.initial.reader;
  counted : failures_of l.initial.reader ≤ failures_of l.reader;
  room : failures_of l.reader < 2 ^ 64 - 1;
}

abbrev pub decreases-loop-buffer : goal.decreases-loop-buffer
decreases-loop-buffer g l = l.most - length l.bytes.items
