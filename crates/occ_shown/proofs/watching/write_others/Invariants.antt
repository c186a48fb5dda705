use Rattle.std.proofs.Common.{◌≡◌, ◌++◌, take}
use Rattle.occ_shown.specs.Answers.{later_text}
use Rattle.occ_shown.proofs.watching.write_others.Given as goal

abbrev pub invariant-loop-part : goal.invariant-loop-part
invariant-loop-part l = l.out.items ≡ l.fn.out.items ++ later_text (take l.part-index l.parts)
