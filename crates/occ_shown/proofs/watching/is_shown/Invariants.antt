use Rattle.std.proofs.Common.{◌≡◌, ◌↔◌, ◌+◌, length}
use Rattle.occ_term.specs.Runs.{entries}
use Rattle.occ_shown.specs.Answers.{names_of}
use Rattle.occ_shown.proofs.watching.is_shown.Given as goal

-- what is left decides
abbrev pub invariant-loop-communication : goal.invariant-loop-communication
invariant-loop-communication l = record {
  counted : l.number + length l.communication-iterator ≡ length l.trace;
  decides : (l.rest ≡ entries (names_of l.channels) (l.number + 1) l.communication-iterator) ↔ (l.list ≡ entries (names_of l.channels) 1 l.trace);
}
