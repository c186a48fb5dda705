use Rattle.std.proofs.Common.{◌≡◌, drop}
use Rattle.occ_net_replay.specs.Replay.{merged}
use Rattle.occ_net_tables.proofs.copying.merge.Given as goal

abbrev pub invariant-loop-branch : goal.invariant-loop-branch
invariant-loop-branch l = merged l.code.bodies l.tasks (drop l.branch-index l.branches) l.frame ≡ merged l.code.bodies l.tasks l.branches l.initial.frame
