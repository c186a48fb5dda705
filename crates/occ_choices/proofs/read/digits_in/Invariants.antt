use Rattle.std.proofs.Common.{◌≡◌, ◌+◌, drop}
use Rattle.occ_choices.specs.Reading.{leading}
use Rattle.occ_choices.proofs.read.digits_in.Given as goal

abbrev pub invariant-loop-i : goal.invariant-loop-i
invariant-loop-i l = leading l.text ≡ l.i + leading (drop l.i l.text)
