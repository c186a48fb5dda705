use Rattle.std.proofs.Common.{◌≡◌, ◌++◌, length, map}
use Rattle.occ_explaining.specs.Files.{beginnings_after, files_of, later_beginnings}
use Rattle.occ_explaining.proofs.files.write_beginnings.Given as goal

abbrev pub invariant-loop-names : goal.invariant-loop-names
invariant-loop-names l = l.out.items ++ beginnings_after (map (λ m. m.now) l.names) l.ends ≡ l.initial.out.items ++ later_beginnings (files_of l.files)

abbrev pub decreases-loop-names : goal.decreases-loop-names
decreases-loop-names l = length l.names
