use Rattle.std.proofs.Common.{◌≡◌, ◌++◌, drop, map}
use Rattle.occ_check_lines.specs.Clash.{begins_at, stretches_of, variable_spans}
use Rattle.occ_check_lines.proofs.naming.firsts_of.Given as goal

abbrev pub invariant-loop-place : goal.invariant-loop-place
invariant-loop-place l = (l.firsts.items ++ map begins_at (variable_spans (stretches_of (drop l.place-index l.places)))) ≡ map begins_at (variable_spans (stretches_of l.places))
