use Rattle.std.proofs.Common.{◌≡◌, ◌≤◌, length, drop, map}
use Rattle.occ_term.specs.Messages.{product}
use Rattle.occ_term.specs.View.{expression_of, subscripts}
use Rattle.occ_code.specs.Expressions.{subscripts_code}
use Rattle.occ_code.specs.Emits.{Emits}
use Rattle.occ_code.proofs.expressions.+expressions.Given as goal

abbrev pub invariant-emit_subscripts-loop-count : goal.invariant-emit_subscripts-loop-count
invariant-emit_subscripts-loop-count l =
    (l.count ≤ length l.list) × (l.count ≤ length l.sizes) × (l.stride ≡ product (drop l.count l.sizes))
    × Emits l.fn.code.items (subscripts_code (subscripts (map expression_of (drop l.count l.list))) l.line (drop l.count l.sizes)) l.code.items

abbrev pub decreases-emit_subscripts-loop-count : goal.decreases-emit_subscripts-loop-count
decreases-emit_subscripts-loop-count l = l.count
