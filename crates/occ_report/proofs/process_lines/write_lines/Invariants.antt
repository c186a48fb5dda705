use Rattle.std.proofs.Common.{◌≡◌, ◌++◌, List, ℕ}
use Rattle.occ_machine.specs.Compiled.{Program}
use Rattle.occ_net_replay.specs.Replay.{Net}
use Rattle.occ_net_tables.specs.Holding.{Holds}
use Rattle.occ_shown.specs.Answers.{names_of}
use Rattle.occ_text.specs.Words.{logical_lines}
use Rattle.occ_report.specs.Reports.{task_lines}
use Rattle.occ_report.proofs.process_lines.write_lines.Given as goal

abbrev pub invariant-loop-number : goal.invariant-loop-number
invariant-loop-number l = (p : Program) (keyboard : List ℕ) (net : Net) → Holds p keyboard l.tables net → l.out.items ≡ l.fn.out.items ++ task_lines (names_of l.channels) l.ends.readers.now l.ends.writers.now l.told.source.now (logical_lines l.told.lines.now) l.told.unfolded.now.cells l.told.code.now.bodies l.told.places.now net.tasks l.number
