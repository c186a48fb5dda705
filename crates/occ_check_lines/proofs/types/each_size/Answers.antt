use Rattle.std.proofs.Common.{map, subst, sym, ◌∙◌}
use Rattle.occ_tree_grammar.specs.Expressions.Trees.{expression_of}
use Rattle.occ_check_lines.specs.View.{names_in, Refuses}
use Rattle.occ_check_lines.proofs.EachOf.{so_far_first, so_far_next, so_far_nothing, so_far_same}
use Rattle.occ_check_lines.proofs.SizeLists.{given_none, given_one, sizes_each}
use Rattle.occ_check_lines.proofs.types.each_size.Goals as goal

pub loop-size-init : goal.loop-size-init
loop-size-init c = so_far_first _ _ _ _ _ c.new-made.ensures

pub loop-size-preserved : goal.loop-size-preserved
loop-size-preserved c = so_far_next _ _ _ _ _ _ _ c.loop-size-test.true c.size-item.is c.loop-size.invariant _ _ c.in_ok-push.ensures.ok (given_one _ _ _ _ c.in-Ok.ensures)

pub returns-in-Err : goal.returns-in-Err
returns-in-Err c =
    subst (Refuses c.in-Err.e) (sym (sizes_each (names_in c.args.context.scope) c.args.context.line (map expression_of c.args.sizes.now)))
    (so_far_nothing _ _ _ _ _ _ _ c.loop-size-test.true c.size-item.is c.loop-size.invariant _ (given_none _ _ _ _ c.in-Err.ensures))

pub returns : goal.returns
returns c = sizes_each _ _ _ ∙ so_far_same _ _ _ _ _ c.loop-size-test.false c.loop-size.invariant
