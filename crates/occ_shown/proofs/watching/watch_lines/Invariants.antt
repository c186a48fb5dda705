use Rattle.std.proofs.Common.{◌≡◌, take}
use Rattle.occ_shown.specs.Answers.{trace_text}
use Rattle.occ_shown.proofs.watching.watch_lines.Given as goal

abbrev pub invariant-loop-shown : goal.invariant-loop-shown
invariant-loop-shown l = l.lines.items ≡ trace_text (take l.shown-index l.list)
