use Rattle.std.proofs.Common.{map}
use Rattle.occ_tree_grammar.specs.Processes.Views.{item_of}
use Rattle.occ_term.specs.View.{declarations_of}
use Rattle.occ_check_lines.specs.Declaration.{pairs_of}
use Rattle.occ_check.specs.Progress.{counted, innermost_at, meant_innermost}
use Rattle.occ_check.proofs.WholePrograms.{names_inside}
use Rattle.occ_check.proofs.program.entered_items.Goals as goal

pub returns : goal.returns
returns c =
    names_inside (map item_of c.args.items.now) (pairs_of c.args.names.items) (meant_innermost c.args.unfolder.now) 1 (counted c.args.unfolder.now) (counted c.items_declared.new.unfolder) (innermost_at c.items_declared.new.unfolder) _
    (declarations_of c.in_ok-heads.heads) c.in_ok-heads.ensures.entered c.in_ok-enter.ensures.scope
