use Rattle.std.proofs.Common.{◌≡◌}
use Rattle.occ_files.proofs.saving.replace.Given as goal

abbrev pub invariant-loop-number : goal.invariant-loop-number
invariant-loop-number g l = l.pieces ≡ l.fn.pieces
