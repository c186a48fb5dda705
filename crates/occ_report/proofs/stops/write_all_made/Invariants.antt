use Rattle.std.proofs.Common.{◌≡◌, ◌+◌, ◌-◌, ◌++◌, length}
use Rattle.occ_shown.specs.Answers.{names_of}
use Rattle.occ_report.specs.Steps.{all_made_text}
use Rattle.occ_term.specs.Runs.{entries}
use Rattle.occ_report.proofs.stops.write_all_made.Given as goal

abbrev pub invariant-loop-communication : goal.invariant-loop-communication
invariant-loop-communication l = record {
  counted : l.number + length l.communication-iterator ≡ l.made;
  written :
      l.out.items ++ all_made_text (entries (names_of l.channels) (l.number + 1) l.communication-iterator)
      ≡ l.fn.out.items ++ all_made_text (entries (names_of l.channels) (l.made - length l.news + 1) l.news);
}
