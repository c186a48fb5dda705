use Rattle.occ_ends.specs.Kinds.{AreThoseIn, is_left_at}
use Rattle.occ_ends.proofs.kinds.unfinished_in.Given as goal

abbrev pub invariant-loop-number : goal.invariant-loop-number
invariant-loop-number l = AreThoseIn l.tables (is_left_at l.endless) l.number l.numbers
