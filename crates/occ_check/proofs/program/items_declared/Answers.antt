use Rattle.std.proofs.Common.{arith, map, rules}
use Rattle.occ_tree_grammar.specs.Processes.Views.{item_of}
use Rattle.occ_check_meaning.specs.Programs as programs
use Rattle.occ_check.specs.Progress.{counted, meant_innermost}
use Rattle.occ_check_lines.specs.View.{Refuses}
use Rattle.occ_check.proofs.Items.{going_first, going_last, going_next, going_stops}
use Rattle.occ_check.proofs.program.items_declared.Goals as goal

pub loop-item-init : goal.loop-item-init
loop-item-init c = (omega arith, going_first c.args.items.now c.args.depth (meant_innermost c.args.unfolder.now) (counted c.args.unfolder.now) c.new-heads.result c.new-heads.ensures)

pub returns-in_err-more-clause-entered : goal.returns-in_err-more-clause-entered
returns-in_err-more-clause-entered c =
    let refused : Refuses c.in_err-more.field-0.0 (programs.items_declared (map item_of c.args.items.now) (meant_innermost c.args.unfolder.now) c.args.depth (counted c.args.unfolder.now)) =
    going_stops c.args.items.now c.args.depth (meant_innermost c.args.unfolder.now) (counted c.args.unfolder.now) c.loop-item.item-index c.loop-item.heads (meant_innermost c.loop-item.unfolder) (counted c.loop-item.unfolder)
    c.loop-item.invariant.1 c.item-item.result c.loop-item-test.true c.item-item.is c.in_err-more.field-0.0 c.in_err-more.ensures.entered in
    search rules

pub loop-item-preserved : goal.loop-item-preserved
loop-item-preserved c =
    let more = c.in_ok-more.ensures.more in (
      omega (arith, more),
      going_next c.args.items.now c.args.depth (meant_innermost c.args.unfolder.now) (counted c.args.unfolder.now) c.loop-item.item-index c.loop-item.heads (meant_innermost c.loop-item.unfolder) (counted c.loop-item.unfolder)
          c.loop-item.invariant.1 c.item-item.result c.loop-item-test.true c.item-item.is c.in_ok-more.more c.append.new.self (meant_innermost c.item_declared.new.self) (counted c.item_declared.new.self)
          c.in_ok-more.ensures.entered (search rules),
    )

pub returns-clause-entered : goal.returns-clause-entered
returns-clause-entered c =
    going_last c.args.items.now c.args.depth (meant_innermost c.args.unfolder.now) (counted c.args.unfolder.now) c.loop-item.item-index c.loop-item.heads (meant_innermost c.loop-item.unfolder) (counted c.loop-item.unfolder)
    c.loop-item.invariant.1 c.loop-item-test.false
