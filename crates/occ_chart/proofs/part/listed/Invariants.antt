use Rattle.std.proofs.Common.{◌≡◌, ◌≤◌, ◌+◌, ◌++◌, drop, length, take}
use Rattle.occ_chart.specs.LeftOut.{seen_entries}
use Rattle.occ_shown.specs.Answers.{names_of}
use Rattle.occ_term.specs.Runs.{entries}
use Rattle.occ_chart.proofs.part.listed.Given as goal

-- what is listed, and what is left
abbrev pub invariant-loop-communication : goal.invariant-loop-communication
invariant-loop-communication l = record {
  counted : l.number + length l.communication-iterator ≡ length l.communications;
  few : length l.list.items + l.wanted ≤ l.count;
  listed :
      l.list.items ++ take l.wanted (drop l.before (seen_entries l.left_out (entries (names_of l.channels) (l.number + 1) l.communication-iterator)))
      ≡ take l.count (drop l.skipped (seen_entries l.left_out (entries (names_of l.channels) 1 l.communications)));
}
