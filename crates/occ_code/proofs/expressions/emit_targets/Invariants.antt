use Rattle.std.proofs.Common.{◌≤◌, length, drop}
use Rattle.occ_term.specs.View.{targets_of}
use Rattle.occ_code.specs.Expressions.{targets_code}
use Rattle.occ_code.specs.Emits.{Emits}
use Rattle.occ_code.proofs.expressions.emit_targets.Given as goal

abbrev pub invariant-loop-count : goal.invariant-loop-count
invariant-loop-count l = (l.count ≤ length l.targets) × Emits l.fn.code.items (targets_code (targets_of (drop l.count l.targets))) l.code.items

abbrev pub decreases-loop-count : goal.decreases-loop-count
decreases-loop-count l = l.count
