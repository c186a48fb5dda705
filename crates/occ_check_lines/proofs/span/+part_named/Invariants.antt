use Rattle.std.proofs.Common.{length}
use Rattle.occ_check_lines.proofs.span.+part_named.Given as goal

abbrev pub decreases-part_named : goal.decreases-part_named
decreases-part_named g l = length l.under.now
