use Rattle.std.proofs.Common.{◌≡◌, drop}
use Rattle.occ_ends.specs.ForGood.{some_held}
use Rattle.occ_ends.proofs.for_good.some_among.Given as goal

abbrev pub invariant-loop-number : goal.invariant-loop-number
invariant-loop-number l = some_held l.numbers l.others ≡ some_held (drop l.number-index l.numbers) l.others
