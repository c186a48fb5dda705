use Rattle.std.proofs.Common.{◌≡◌, drop}
use Rattle.std.specs.Prelude.{map}
use Rattle.occ_machine.specs.Machine.{frame_parts}
use Rattle.occ_proc.specs.Passing.{spot_of}
use Rattle.occ_proc.proofs.stores.store_all.Given as goal

abbrev pub invariant-loop-i : goal.invariant-loop-i
invariant-loop-i l = frame_parts (map spot_of (drop l.i l.spots)) (drop l.i l.parts) l.frame ≡ frame_parts (map spot_of l.spots) l.parts l.initial.frame
