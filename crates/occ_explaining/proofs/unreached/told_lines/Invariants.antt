use Rattle.std.proofs.Common.{◌≡◌, map, take}
use Rattle.occ_explaining.specs.Files.{files_of}
use Rattle.occ_explaining.specs.Unreached.{told_lines}
use Rattle.occ_explaining.specs.Reach.{unchecked_head}
use Rattle.occ_explaining.proofs.unreached.told_lines.Given as goal

abbrev pub invariant-loop-proc : goal.invariant-loop-proc
invariant-loop-proc l = l.text.items ≡ told_lines (files_of l.files) l.json (map unchecked_head (take l.proc-index l.procs))
