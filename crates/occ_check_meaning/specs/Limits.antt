-- The limits of a program, said of what it unfolds to.
-- Manual: nothing; the limits of sizes are (own).
use Rattle.std.specs.Prelude.{length, ◌≤◌}
use Rattle.occ_term.specs.Sizes.{size_of}
use Rattle.occ_term.specs.Terms.{Term}
use Rattle.occ_term.specs.UnfoldedProgram.{most_cells, most_channels}
use Rattle.occ_check_meaning.specs.Numbers.{Numbers, most_depth, most_nodes, most_processes}

-- the term is no larger and no deeper than may be, and no more than may be was given out for it
pub record KeepsLimits (t : Term) (m : Numbers) : Type 0 where
  pub cells : length m.cells ≤ most_cells
  pub channels : length m.channels ≤ most_channels
  pub processes : m.processes ≤ most_processes
  pub nodes : (size_of t).nodes ≤ most_nodes
  pub depth : (size_of t).depth ≤ most_depth
