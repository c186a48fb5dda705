use Rattle.std.proofs.Common.{◌≡◌, ◌++◌, drop}
use Rattle.occ_check_meaning.specs.Programs as programs
use Rattle.occ_check_lines.specs.Declaration.{pairs_of}
use Rattle.occ_check.proofs.program.channels_from.Given as goal

abbrev pub invariant-loop-name : goal.invariant-loop-name
invariant-loop-name l = (l.number ≡ l.name-index) × ((pairs_of l.all.items ++ programs.channels_from l.name-index (drop l.name-index l.names)) ≡ programs.channels_from 0 l.names)
