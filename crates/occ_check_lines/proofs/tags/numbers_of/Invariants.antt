use Rattle.std.proofs.Common.{◌≡◌, ◌≤◌, List, drop, length, ℕ}
use Rattle.occ_check_meaning.specs.Items.{tag_number}
use Rattle.occ_check_lines.specs.Tags.{number_at}
use Rattle.occ_check_lines.proofs.tags.numbers_of.Given as goal

abbrev pub invariant-loop-left : goal.invariant-loop-left
invariant-loop-left l = (l.left ≤ length l.tags) × ((x : List ℕ) → number_at x l.numbers.entries ≡ tag_number (drop l.left l.tags) x l.left)

abbrev pub decreases-loop-left : goal.decreases-loop-left
decreases-loop-left l = l.left
