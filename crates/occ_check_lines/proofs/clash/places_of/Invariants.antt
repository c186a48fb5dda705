use Rattle.std.proofs.Common.{◌≡◌, ◌++◌, drop}
use Rattle.occ_term.specs.View.{targets_of}
use Rattle.occ_check_lines.specs.Clash.{stretches_at}
use Rattle.occ_check_lines.specs.Clash.{stretches_of}
use Rattle.occ_check_lines.proofs.clash.places_of.Given as goal

abbrev pub invariant-loop-target : goal.invariant-loop-target
invariant-loop-target l = (stretches_of l.places.items ++ stretches_at (targets_of (drop l.target-index l.targets))) ≡ stretches_at (targets_of l.targets)
