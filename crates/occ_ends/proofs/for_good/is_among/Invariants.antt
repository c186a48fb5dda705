use Rattle.std.proofs.Common.{◌≡◌, drop}
use Rattle.occ_term.specs.Frames.{is_held}
use Rattle.occ_ends.proofs.for_good.is_among.Given as goal

abbrev pub invariant-loop-one : goal.invariant-loop-one
invariant-loop-one l = is_held l.numbers l.number ≡ is_held (drop l.one-index l.numbers) l.number
