use Rattle.std.proofs.Common.{◌≡◌, ◌+◌, ◌≤◌, Some, drop, length, map}
use Rattle.std.specs.Prelude.{vec_capacity, vec_len}
use Rattle.std.specs.Vec.Iter.{into_iter_items, into_iter_len}
use Rattle.occ_term.specs.Frames.{Variables}
use Rattle.occ_net_replay.specs.Replay.{with_branches}
use Rattle.occ_net_tables.specs.Room.{first_frame}
use Rattle.occ_net_tables.specs.Settling.{BranchesMayBegin}
use Rattle.occ_net_tables.specs.Keys.{set_all}
use Rattle.occ_net_tables.proofs.tables.Tables.begin_all.Given as goal

abbrev pub invariant-loop-number : goal.invariant-loop-number
invariant-loop-number l = record {
  may_begin : BranchesMayBegin l.code l.self (drop l.number-index l.branches);
  room : vec_len l.self.ready + length (drop l.number-index l.branches) ≤ vec_capacity l.self.ready;
  many : into_iter_len l.left ≡ length (drop l.number-index l.branches);
  left : (f : Variables) → l.fn.frames.items ≡ map (first_frame l.code.bodies f) l.branches → into_iter_items l.left ≡ map (first_frame l.code.bodies f) (drop l.number-index l.branches);
  tasks : (f : Variables) → l.fn.frames.items ≡ map (first_frame l.code.bodies f) l.branches → with_branches l.code.bodies f (drop l.number-index l.branches) l.self.tasks.items ≡ with_branches l.code.bodies f l.branches l.initial.self.tasks.items;
  parents : set_all (drop l.number-index l.branches) (Some l.parent) l.self.parents.items ≡ set_all l.branches (Some l.parent) l.initial.self.parents.items;
  offering : l.self.offering ≡ l.initial.self.offering;
  awaiting : l.self.awaiting ≡ l.initial.self.awaiting;
  unfinished : l.self.unfinished ≡ l.initial.self.unfinished;
  fault : l.self.fault ≡ l.initial.self.fault;
  used : l.self.used ≡ l.initial.self.used;
  trace : l.self.trace ≡ l.initial.self.trace;
}
