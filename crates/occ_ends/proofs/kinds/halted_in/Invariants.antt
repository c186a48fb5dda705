use Rattle.occ_ends.specs.Kinds.{AreThoseIn, halts_at}
use Rattle.occ_ends.proofs.kinds.halted_in.Given as goal

abbrev pub invariant-loop-number : goal.invariant-loop-number
invariant-loop-number l = AreThoseIn l.tables halts_at l.number l.numbers
