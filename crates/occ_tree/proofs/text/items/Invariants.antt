use Rattle.std.proofs.Common.{◌+◌, length, map}
use Rattle.occ_text.specs.Words.{LogicalLine, logical_lines}
use Rattle.occ_tree_grammar.specs.Limits.{most_levels}
use Rattle.occ_tree_grammar.specs.Many.{as_many}
use Rattle.occ_tree_grammar.specs.Processes.Trees.{Item}
use Rattle.occ_tree_grammar.specs.Processes.Views.{item_of}
use Rattle.occ_tree_grammar.specs.Processes.Reading.{at_any, item_at}
use Rattle.occ_tree_reader.proofs.ManyLoop.{SoFar}
use Rattle.occ_tree.proofs.text.items.Given as goal

abbrev pub invariant-loop : goal.invariant-loop
invariant-loop l = SoFar LogicalLine Item at_any (item_at (most_levels + 1) most_levels) (map item_of l.all.items) (length l.lines) l.counter (logical_lines l.rest) (as_many at_any (item_at (most_levels + 1) most_levels) (logical_lines l.lines))
