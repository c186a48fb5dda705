use Rattle.std.proofs.Common.{◌≤◌, length}
use Rattle.occ_check.specs.Progress.{counted, meant_innermost}
use Rattle.occ_check.proofs.Items.{Going}
use Rattle.occ_check.proofs.program.items_declared.Given as goal

abbrev pub invariant-loop-item : goal.invariant-loop-item
invariant-loop-item l =
    (length l.fn.unfolder.blocks.blocks.items ≤ length l.unfolder.blocks.blocks.items)
    × Going l.items l.depth (meant_innermost l.fn.unfolder) (counted l.fn.unfolder) l.item-index l.heads (meant_innermost l.unfolder) (counted l.unfolder)
