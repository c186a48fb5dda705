-- The numbers of processes, in the order in which they begin in the term.
-- Manual: combining processes (PAR). The numbers are (own).
use Rattle.std.specs.Prelude.{List, length, ℕ, ◌+◌, ◌≡◌}
use Rattle.occ_term.specs.Processes.{Numbered}
use Rattle.occ_term.specs.UnfoldedProgram.{NumberedFrom}

-- numbered from n on, and the next number is m
pub record NumberedUpTo (n : ℕ) (ps : List Numbered) (m : ℕ) : Type 0 where
  pub numbers : NumberedFrom n ps
  pub next : m ≡ n + length ps
