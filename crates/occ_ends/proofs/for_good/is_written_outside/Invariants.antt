use Rattle.std.proofs.Common.{◌≡◌, drop, map}
use Rattle.occ_ends.specs.Ends.{noted_for}
use Rattle.occ_ends.specs.ForGood.{used_outside}
use Rattle.occ_ends.proofs.for_good.is_written_outside.Given as goal

abbrev pub invariant-loop-process : goal.invariant-loop-process
invariant-loop-process l = used_outside (λ u. u.outs) (map noted_for l.uses) l.flags l.chan ≡ used_outside (λ u. u.outs) (map noted_for (drop l.process-index l.uses)) l.flags l.chan
