use Rattle.std.proofs.Common.{◌≡◌, ◌++◌, length}
use Rattle.occ_shown.specs.Answers.{numbers_text}
use Rattle.occ_shown.proofs.values.write_numbers.Given as goal

abbrev pub invariant-loop-first : goal.invariant-loop-first
invariant-loop-first l = l.out.items ++ numbers_text l.rest ≡ l.fn.out.items ++ numbers_text l.fn.numbers

abbrev pub decreases-loop-first : goal.decreases-loop-first
decreases-loop-first l = length l.rest
