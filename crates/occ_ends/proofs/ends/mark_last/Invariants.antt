use Rattle.std.proofs.Common.{◌≤◌, drop, length, map}
use Rattle.occ_ends.specs.Endless.{flag}
use Rattle.occ_ends.specs.Ends.{MarkedLast, noted_for}
use Rattle.occ_ends.proofs.ends.mark_last.Given as goal

abbrev pub invariant-loop-count : goal.invariant-loop-count
invariant-loop-count l =
    (l.count ≤ length l.uses)
    × MarkedLast (flag l.flags) (λ u. u.ins) (map noted_for (drop l.count l.uses)) l.fn.ends.readers.items l.ends.readers.items
    × MarkedLast (flag l.flags) (λ u. u.outs) (map noted_for (drop l.count l.uses)) l.fn.ends.writers.items l.ends.writers.items

abbrev pub decreases-loop-count : goal.decreases-loop-count
decreases-loop-count l = l.count
