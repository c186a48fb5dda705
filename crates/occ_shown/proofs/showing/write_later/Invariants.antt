use Rattle.std.proofs.Common.{◌≡◌, ◌++◌}
use Rattle.occ_shown.specs.Answers.{later_text}
use Rattle.occ_shown.proofs.showing.write_later.Given as goal

abbrev pub invariant-loop-part : goal.invariant-loop-part
invariant-loop-part l = l.out.items ++ later_text l.part-iterator ≡ l.fn.out.items ++ later_text l.fn.parts
