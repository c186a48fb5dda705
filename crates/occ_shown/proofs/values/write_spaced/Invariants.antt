use Rattle.std.proofs.Common.{◌≡◌, ◌++◌, length}
use Rattle.occ_shown.specs.Answers.{spaced_text}
use Rattle.occ_shown.proofs.values.write_spaced.Given as goal

abbrev pub invariant-loop-value : goal.invariant-loop-value
invariant-loop-value l = l.out.items ++ spaced_text l.primitive l.rest ≡ l.fn.out.items ++ spaced_text l.primitive l.fn.values

abbrev pub decreases-loop-value : goal.decreases-loop-value
decreases-loop-value l = length l.rest
