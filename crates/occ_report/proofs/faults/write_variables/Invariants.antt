use Rattle.std.proofs.Common.{◌≡◌, ◌+◌, ◌++◌, ◌≤◌, length}
use Rattle.occ_report.specs.Faults.{variables_text}
use Rattle.occ_report.specs.Naming.{told_by}
use Rattle.occ_report.proofs.faults.write_variables.Given as goal

abbrev pub invariant-loop-cell : goal.invariant-loop-cell
invariant-loop-cell l = record {
  few : length l.fn.program.cells ≤ 1048576;
  counted : l.number + length l.rest ≡ length l.fn.program.cells;
  same : l.out.items ++ variables_text (told_by l.line) l.held l.frame l.read l.found l.number l.rest ≡ l.fn.out.items ++ variables_text (told_by l.line) l.held l.frame l.read l.found 0 l.fn.program.cells;
}

abbrev pub decreases-loop-cell : goal.decreases-loop-cell
decreases-loop-cell l = length l.rest
