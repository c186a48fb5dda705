use Rattle.std.proofs.Common.{◌≡◌, map, take}
use Rattle.occ_net_tables.specs.Room.{first_frame}
use Rattle.occ_net_tables.proofs.copying.branch_frames.Given as goal

abbrev pub invariant-loop-number : goal.invariant-loop-number
invariant-loop-number l = l.frames.items ≡ map (first_frame l.code.bodies l.parent) (take l.number-index l.branches)
