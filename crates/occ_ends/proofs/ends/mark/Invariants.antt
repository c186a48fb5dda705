use Rattle.std.proofs.Common.{◌-◌, ◌≡◌, ◌⊎◌, ◌≤◌, length}
use Rattle.std.specs.Prelude.{min}
use Rattle.occ_usage.specs.Noted.{between}
use Rattle.occ_ends.specs.Ends.{Marks}
use Rattle.occ_ends.proofs.ends.mark.Given as goal

abbrev pub invariant-loop-chan : goal.invariant-loop-chan
invariant-loop-chan l =
    (l.first ≤ l.chan) × ((l.chan ≤ min l.end (length l.fn.ends.items)) ⊎ (l.chan ≡ l.first)) × (l.last ≡ min l.end (length l.fn.ends.items))
    × Marks l.fn.ends.items (between l.first l.chan) l.number l.ends.items

abbrev pub decreases-loop-chan : goal.decreases-loop-chan
decreases-loop-chan l = l.last - l.chan
