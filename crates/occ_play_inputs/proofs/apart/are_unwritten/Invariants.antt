use Rattle.std.proofs.Common.{All, take}
use Rattle.occ_play_inputs.specs.Paths.{IsUnwritten}
use Rattle.occ_play_inputs.proofs.apart.are_unwritten.Given as goal

abbrev pub invariant-loop-i : goal.invariant-loop-i
invariant-loop-i l = All (IsUnwritten l.written l.drawn l.traced l.turns) (take l.i l.paths)
