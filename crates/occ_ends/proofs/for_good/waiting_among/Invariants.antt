use Rattle.occ_ends.specs.ForGood.{waits_at}
use Rattle.occ_ends.specs.Kinds.{AreThoseIn}
use Rattle.occ_ends.proofs.for_good.waiting_among.Given as goal

abbrev pub invariant-loop-number : goal.invariant-loop-number
invariant-loop-number l = AreThoseIn l.tables (waits_at l.flags) l.number l.numbers
