use Rattle.std.proofs.Common.{drop, map}
use Rattle.occ_text.specs.Words.{logical_lines}
use Rattle.occ_explaining.specs.Calls.{call_pair}
use Rattle.occ_explaining.proofs.Owning.{GoneThrough}
use Rattle.occ_explaining.proofs.calls.calls_of.Given as goal

abbrev pub invariant-loop-line : goal.invariant-loop-line
invariant-loop-line l = GoneThrough (logical_lines l.lines) (logical_lines (drop l.line-index l.lines)) l.owners.items (map call_pair l.calls.items)
