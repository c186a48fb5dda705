use Rattle.std.proofs.Common.{◌≡◌, length, map}
use Rattle.occ_tree_grammar.specs.Processes.Views.{item_of}
use Rattle.occ_check_meaning.specs.Programs as programs
use Rattle.occ_check.proofs.program.main_of.Given as goal

abbrev pub invariant-backwards : goal.invariant-backwards
invariant-backwards l = programs.main_of (map item_of l.left) ≡ programs.main_of (map item_of l.items)

abbrev pub decreases-backwards : goal.decreases-backwards
decreases-backwards l = length l.left
