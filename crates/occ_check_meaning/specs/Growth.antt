-- Cells and channels are only added while a tree is unfolded, and never more than there may be.
-- Manual: nothing; the numbers and the limits are (own).
use Rattle.std.specs.Prelude.{List, length, ◌++◌, ◌≡◌, ◌≤◌}
use Rattle.occ_term.specs.declared.names.Cell.{Cell}
use Rattle.occ_term.specs.declared.names.Channel.{Channel}
use Rattle.occ_term.specs.UnfoldedProgram.{most_cells, most_channels}
use Rattle.occ_check_meaning.specs.Numbers.{Numbers}

-- no more cells and channels than there may be
pub record IsWithinLimits (n : Numbers) : Type 0 where
  pub cells : length n.cells ≤ most_cells
  pub channels : length n.channels ≤ most_channels

-- the second numbers begin with the first
pub record Grown (n m : Numbers) : Type 0 where
  pub new_cells : List Cell
  pub new_channels : List Channel
  pub cells : m.cells ≡ n.cells ++ new_cells
  pub channels : m.channels ≡ n.channels ++ new_channels
  pub limits : IsWithinLimits n → IsWithinLimits m
