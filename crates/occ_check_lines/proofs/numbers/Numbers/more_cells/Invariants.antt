use Rattle.std.proofs.Common.{◌≡◌, ◌++◌, map}
use Rattle.occ_check_meaning.specs.Numbers.{cell}
use Rattle.occ_check_lines.specs.View.{numbers_of}
use Rattle.occ_check_lines.proofs.numbers.Numbers.more_cells.Given as goal

abbrev pub invariant-loop-name : goal.invariant-loop-name
invariant-loop-name l = numbers_of l.self ≡ record (numbers_of l.initial.self) { cells = l.initial.self.cells.items ++ map (cell l.primitive) l.yielded }
