-- The nodes that are counted are those of the term, and none stands deeper than may be.
-- Manual: nothing; the limits of sizes are (own).
use Rattle.std.specs.Prelude.{ℕ, ◌+◌, ◌-◌, ◌≡◌, ◌≤◌}
use Rattle.occ_term.specs.Sizes.{Size}
use Rattle.occ_check_meaning.specs.Numbers.{Numbers, most_depth}

-- what is of this size was unfolded so many nodes deep, from the first numbers to the second
pub record Counted (depth : ℕ) (size : Size) (n m : Numbers) : Type 0 where
  pub nodes : m.nodes ≡ n.nodes + size.nodes
  pub deep : size.depth ≤ most_depth - depth
