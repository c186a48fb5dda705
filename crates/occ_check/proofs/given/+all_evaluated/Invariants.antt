use Rattle.std.proofs.Common.{length}
use Rattle.occ_check.proofs.given.+all_evaluated.Given as goal

abbrev pub decreases-all_evaluated : goal.decreases-all_evaluated
decreases-all_evaluated l = length l.sizes.now
