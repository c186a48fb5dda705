use Rattle.std.proofs.Common.{◌≡◌, ◌+◌, ◌<◌, ◌^◌, drop, length}
use Rattle.occ_net_tables.specs.Flat.{all_words}
use Rattle.occ_net_tables.proofs.lists.all_word_count.Given as goal

abbrev pub invariant-loop-part : goal.invariant-loop-part
invariant-loop-part l = l.count < 2 ^ 63 → l.count + length (all_words (drop l.part-index l.parts)) ≡ length (all_words l.parts)
