use Rattle.std.proofs.Common.{◌≤◌, length, suc}
use Rattle.occ_play_inputs.specs.Asked.{IsJoin}
use Rattle.occ_play_inputs.proofs.inputs.read_files.Given as goal

abbrev pub invariant-loop-place : goal.invariant-loop-place
invariant-loop-place g l = record {
  few : length l.source.bytes.items ≤ 1048577;
  joined : IsJoin (suc l.place) l.source;
}
