use Rattle.std.proofs.Common.{◌≡◌, drop}
use Rattle.occ_usage.specs.Noted.{uses_in}
use Rattle.occ_ends.proofs.for_good.inputs_from.Given as goal

abbrev pub invariant-loop-one : goal.invariant-loop-one
invariant-loop-one l = (uses_in l.uses).ins l.chan ≡ (uses_in (drop l.one-index l.uses)).ins l.chan
