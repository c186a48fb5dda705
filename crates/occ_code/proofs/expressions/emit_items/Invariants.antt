use Rattle.std.proofs.Common.{◌≤◌, length, drop}
use Rattle.occ_term.specs.View.{items_of}
use Rattle.occ_code.specs.Expressions.{items_code}
use Rattle.occ_code.specs.Emits.{Emits}
use Rattle.occ_code.proofs.expressions.emit_items.Given as goal

abbrev pub invariant-loop-count : goal.invariant-loop-count
invariant-loop-count l = (l.count ≤ length l.items) × Emits l.fn.code.items (items_code (items_of (drop l.count l.items))) l.code.items

abbrev pub decreases-loop-count : goal.decreases-loop-count
decreases-loop-count l = l.count
