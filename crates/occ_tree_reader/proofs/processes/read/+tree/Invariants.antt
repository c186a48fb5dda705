use Rattle.std.proofs.Common.{length, ◌+◌, ◌-◌, ◌*◌, map}
use Rattle.occ_text.specs.Words.{LogicalLine, logical_lines}
use Rattle.occ_tree_grammar.specs.Limits.{most_levels}
use Rattle.occ_tree_grammar.specs.Many.{as_many}
use Rattle.occ_tree_grammar.specs.Processes.Trees.{process, choice, option, arm, variant, Node, Decl}
use Rattle.occ_tree_grammar.specs.Processes.Views.{process_of, choice_of, selection_of, arm_of, variant_of, decl_of}
use Rattle.occ_tree_grammar.specs.Processes.Reading.{at_level, at_decl, node_at, decl_with}
use Rattle.occ_tree_reader.proofs.ManyLoop.{SoFar}
use Rattle.occ_tree_reader.proofs.processes.read.+tree.Given as goal

abbrev pub decreases-process : goal.decreases-process
decreases-process l = 4 * l.left + 2

abbrev pub decreases-choice : goal.decreases-choice
decreases-choice l = 4 * l.left + 2

abbrev pub decreases-arm : goal.decreases-arm
decreases-arm l = 4 * l.left + 2

abbrev pub decreases-processes : goal.decreases-processes
decreases-processes l = 4 * l.left + 3

abbrev pub decreases-choices : goal.decreases-choices
decreases-choices l = 4 * l.left + 3

abbrev pub decreases-selections : goal.decreases-selections
decreases-selections l = 4 * l.left + 3

abbrev pub decreases-arms : goal.decreases-arms
decreases-arms l = 4 * l.left + 3

abbrev pub decreases-variants : goal.decreases-variants
decreases-variants l = 4 * l.left + 3

abbrev pub decreases-declarations : goal.decreases-declarations
decreases-declarations l = 4 * l.left + 1

abbrev pub decreases-declaration : goal.decreases-declaration
decreases-declaration l = 4 * l.left + 3

abbrev pub invariant-processes-loop : goal.invariant-processes-loop
invariant-processes-loop l = SoFar LogicalLine (Node process) (at_level l.level) (node_at (most_levels + 1) l.left l.level process) (map process_of l.all.items) (length l.lines) l.counter (logical_lines l.rest) (as_many (at_level l.level) (node_at (most_levels + 1) l.left l.level process) (logical_lines l.lines))

abbrev pub invariant-choices-loop : goal.invariant-choices-loop
invariant-choices-loop l = SoFar LogicalLine (Node choice) (at_level l.level) (node_at (most_levels + 1) l.left l.level choice) (map choice_of l.all.items) (length l.lines) l.counter (logical_lines l.rest) (as_many (at_level l.level) (node_at (most_levels + 1) l.left l.level choice) (logical_lines l.lines))

abbrev pub invariant-selections-loop : goal.invariant-selections-loop
invariant-selections-loop l = SoFar LogicalLine (Node option) (at_level l.level) (node_at (most_levels + 1) l.left l.level option) (map selection_of l.all.items) (length l.lines) l.counter (logical_lines l.rest) (as_many (at_level l.level) (node_at (most_levels + 1) l.left l.level option) (logical_lines l.lines))

abbrev pub invariant-arms-loop : goal.invariant-arms-loop
invariant-arms-loop l = SoFar LogicalLine (Node arm) (at_level l.level) (node_at (most_levels + 1) l.left l.level arm) (map arm_of l.all.items) (length l.lines) l.counter (logical_lines l.rest) (as_many (at_level l.level) (node_at (most_levels + 1) l.left l.level arm) (logical_lines l.lines))

abbrev pub invariant-variants-loop : goal.invariant-variants-loop
invariant-variants-loop l = SoFar LogicalLine (Node variant) (at_level l.level) (node_at (most_levels + 1) l.left l.level variant) (map variant_of l.all.items) (length l.lines) l.counter (logical_lines l.rest) (as_many (at_level l.level) (node_at (most_levels + 1) l.left l.level variant) (logical_lines l.lines))

abbrev pub invariant-declarations-loop : goal.invariant-declarations-loop
invariant-declarations-loop l = SoFar LogicalLine Decl (at_decl l.level) (decl_with (most_levels + 1) (l.left - 1) l.level (node_at (most_levels + 1) (l.left - 1) (l.level + 1) process)) (map decl_of l.all.items) (length l.lines) l.counter (logical_lines l.rest) (as_many (at_decl l.level) (decl_with (most_levels + 1) (l.left - 1) l.level (node_at (most_levels + 1) (l.left - 1) (l.level + 1) process)) (logical_lines l.lines))
