use Rattle.std.proofs.Common.{ℕ, ◌≡◌, ◌<◌, ◌≤◌, length, reverse, take}
use Rattle.occ_check_meaning.specs.Scope.{within}
use Rattle.occ_check_lines.specs.Declaration.{pairs_of}
use Rattle.occ_check_lines.specs.View.{innermost}
use Rattle.occ_check.proofs.blocks.Blocks.enter.Given as goal

abbrev pub invariant-names : goal.invariant-names
invariant-names l =
    (within (pairs_of l.left.items) (innermost (reverse l.self.blocks.items)) ≡ within (pairs_of l.fn.names.items) (innermost (reverse l.fn.self.blocks.items)))
    × ((n : ℕ) → n < length l.fn.self.blocks.items → take n l.self.blocks.items ≡ take n l.fn.self.blocks.items)
    × (length l.fn.self.blocks.items ≤ length l.self.blocks.items)

abbrev pub decreases-names : goal.decreases-names
decreases-names l = length l.left.items
