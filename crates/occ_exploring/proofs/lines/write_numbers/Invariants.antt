use Rattle.std.proofs.Common.{◌≡◌, ◌++◌, length}
use Rattle.occ_exploring.specs.Texts.{processes_named}
use Rattle.occ_exploring.proofs.lines.write_numbers.Given as goal

abbrev pub invariant-loop-number : goal.invariant-loop-number
invariant-loop-number l = l.out.items ++ processes_named l.rest ≡ l.fn.out.items ++ processes_named l.fn.numbers

abbrev pub decreases-loop-number : goal.decreases-loop-number
decreases-loop-number l = length l.rest
