use Rattle.std.proofs.Common.{◌≡◌, ◌++◌, length}
use Rattle.occ_term.specs.Runs.{bytes_of, messages_on}
use Rattle.occ_shown.specs.Answers.{AreByteMessages}
use Rattle.occ_shown.proofs.showing.write_bytes.Given as goal

abbrev pub invariant-loop-communication : goal.invariant-loop-communication
invariant-loop-communication l = record {
  written : l.out.items ++ bytes_of (messages_on l.chan l.entries) ≡ l.fn.out.items ++ bytes_of (messages_on l.chan l.fn.communications);
  bytes : AreByteMessages l.chan l.entries;
}

abbrev pub decreases-loop-communication : goal.decreases-loop-communication
decreases-loop-communication l = length l.entries
