use Rattle.std.proofs.Common.{◌≡◌, ◌≤◌, length, drop}
use Rattle.occ_term.specs.Messages.{product}
use Rattle.occ_code.proofs.expressions.product.Given as goal

abbrev pub invariant-loop-count : goal.invariant-loop-count
invariant-loop-count l = (l.count ≤ length l.sizes) × (l.all ≡ product (drop l.count l.sizes))

abbrev pub decreases-loop-count : goal.decreases-loop-count
decreases-loop-count l = l.count
