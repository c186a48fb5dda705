use Rattle.std.proofs.Common.{length}
use Rattle.occ_check_lines.proofs.types.+are_same_sizes.Given as goal

abbrev pub decreases-are_same_sizes : goal.decreases-are_same_sizes
decreases-are_same_sizes l = length l.a.now
