use Rattle.std.proofs.Common.{◌≤◌, length, drop}
use Rattle.occ_term.specs.View.{declarations_of}
use Rattle.occ_code.specs.Expressions.{declarations_code}
use Rattle.occ_code.specs.Emits.{Emits}
use Rattle.occ_code.proofs.expressions.emit_declarations.Given as goal

abbrev pub invariant-loop-count : goal.invariant-loop-count
invariant-loop-count l = (l.count ≤ length l.declarations) × Emits l.fn.code.items (declarations_code (declarations_of (drop l.count l.declarations))) l.code.items

abbrev pub decreases-loop-count : goal.decreases-loop-count
decreases-loop-count l = l.count
