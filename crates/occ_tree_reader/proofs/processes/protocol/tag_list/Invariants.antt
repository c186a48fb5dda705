use Rattle.std.proofs.Common.{◌+◌, length, map}
use Rattle.occ_text.specs.Words.{LogicalLine, logical_lines}
use Rattle.occ_tree_grammar.specs.Limits.{most_levels}
use Rattle.occ_tree_grammar.specs.Many.{as_many}
use Rattle.occ_tree_grammar.specs.Processes.Trees.{Tag}
use Rattle.occ_tree_grammar.specs.Processes.Views.{tag_of}
use Rattle.occ_tree_grammar.specs.Processes.Reading.{at_level, tag_at}
use Rattle.occ_tree_reader.proofs.ManyLoop.{SoFar}
use Rattle.occ_tree_reader.proofs.processes.protocol.tag_list.Given as goal

abbrev pub invariant-loop : goal.invariant-loop
invariant-loop l = SoFar LogicalLine Tag (at_level l.level) (tag_at (most_levels + 1) l.left l.level) (map tag_of l.all.items) (length l.lines) l.counter (logical_lines l.rest) (as_many (at_level l.level) (tag_at (most_levels + 1) l.left l.level) (logical_lines l.lines))
