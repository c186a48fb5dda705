use Rattle.std.proofs.Common.{◌≡◌, drop}
use Rattle.occ_check_lines.specs.Clash.{one_names_another, stretches_of}
use Rattle.occ_check_lines.proofs.naming.one_names_another.Given as goal

abbrev pub invariant-loop-place : goal.invariant-loop-place
invariant-loop-place l = one_names_another l.firsts l.ends (stretches_of (drop l.place-index l.places)) ≡ one_names_another l.firsts l.ends (stretches_of l.places)
