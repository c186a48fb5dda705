use Rattle.std.proofs.Common.{◌≡◌, ◌++◌, drop}
use Rattle.occ_net_tables.specs.Flat.{all_lengths, all_shapes, all_words}
use Rattle.occ_net_tables.specs.TraceRoom.{HasRoomForAll}
use Rattle.occ_net_tables.proofs.lists.Lists.put.Given as goal

abbrev pub invariant-loop-part : goal.invariant-loop-part
invariant-loop-part l = record {
  heads : l.self.heads ≡ l.initial.self.heads;
  shapes : l.self.shapes.items ++ all_shapes (drop l.part-index l.parts) ≡ l.initial.self.shapes.items ++ all_shapes l.parts;
  lengths : l.self.lengths.items ++ all_lengths (drop l.part-index l.parts) ≡ l.initial.self.lengths.items ++ all_lengths l.parts;
  words : l.self.words.items ++ all_words (drop l.part-index l.parts) ≡ l.initial.self.words.items ++ all_words l.parts;
  room : HasRoomForAll l.self (drop l.part-index l.parts);
}
