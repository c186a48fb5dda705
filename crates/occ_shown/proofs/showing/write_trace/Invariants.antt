use Rattle.std.proofs.Common.{◌≡◌, ◌+◌, ◌++◌, length}
use Rattle.occ_term.specs.Runs.{entries}
use Rattle.occ_shown.specs.Answers.{trace_text, names_of}
use Rattle.occ_shown.proofs.showing.write_trace.Given as goal

abbrev pub invariant-loop-communication : goal.invariant-loop-communication
invariant-loop-communication l = record {
  counted : l.number + length l.communication-iterator ≡ length l.trace;
  written : l.out.items ++ trace_text (entries (names_of l.channels) (l.number + 1) l.communication-iterator) ≡ l.fn.out.items ++ trace_text (entries (names_of l.channels) 1 l.trace);
}
