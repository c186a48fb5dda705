use Rattle.std.proofs.Common.{All, take}
use Rattle.occ_play_inputs.specs.Paths.{IsUntyped}
use Rattle.occ_play_inputs.proofs.apart.are_untyped.Given as goal

abbrev pub invariant-loop-i : goal.invariant-loop-i
invariant-loop-i l = All (IsUntyped l.typed) (take l.i l.paths)
