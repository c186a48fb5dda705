use Rattle.std.proofs.Common.{◌≡◌, drop, take}
use Rattle.occ_choices.specs.Lines.{lines_of}
use Rattle.occ_choices.proofs.Cutting.{glued}
use Rattle.occ_choices.proofs.read.first_line.Given as goal

abbrev pub invariant-loop-i : goal.invariant-loop-i
invariant-loop-i l = lines_of l.text ≡ glued (take l.i l.text) (lines_of (drop l.i l.text))
