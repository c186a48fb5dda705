use Rattle.std.proofs.Common.{◌≡◌, ◌++◌, map}
use Rattle.occ_check_meaning.specs.Numbers.{channel}
use Rattle.occ_check_lines.specs.View.{numbers_of}
use Rattle.occ_check_lines.proofs.numbers.Numbers.more_channels.Given as goal

abbrev pub invariant-loop-name : goal.invariant-loop-name
invariant-loop-name l = numbers_of l.self ≡ record (numbers_of l.initial.self) { channels = l.initial.self.channels.items ++ map (channel l.protocol) l.yielded }
