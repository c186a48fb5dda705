use Rattle.std.proofs.Common.{length}
use Rattle.occ_check_lines.proofs.declaration.+takes_sizes.Given as goal

abbrev pub decreases-takes_sizes : goal.decreases-takes_sizes
decreases-takes_sizes l = length l.open_sizes.now
