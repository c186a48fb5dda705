use Rattle.std.proofs.Common.{map, subst, sym, ◌∙◌}
use Rattle.occ_tree_grammar.specs.Lines.Views.{out_of}
use Rattle.occ_check_lines.specs.View.{names_in, Refuses}
use Rattle.occ_check_lines.proofs.Zipping.{sent_zipped, zipping_first, zipping_last, zipping_long, zipping_next, zipping_nothing, zipping_short}
use Rattle.occ_check_lines.proofs.item.sent_items.Goals as goal

pub loop-part-init : goal.loop-part-init
loop-part-init c = zipping_first _ _ _ _ _ _ c.new-made.ensures

pub loop-part-preserved : goal.loop-part-preserved
loop-part-preserved c =
    zipping_next _ _ _ _ _ _ _ _ c.loop-part.invariant _ c.loop-part-test.true c.part-item.is _ _ c.in-Some.ensures.cases.0 _ _ c.in_ok-push.ensures.ok c.in-Ok.ensures

pub returns-in_default : goal.returns-in_default
returns-in_default c =
    sym (sent_zipped _ _ _ _) ∙ zipping_short _ _ _ _ _ _ _ _ c.loop-part.invariant _ c.loop-part-test.true c.part-item.is c.in_default.ensures.cases

pub returns-in-Err : goal.returns-in-Err
returns-in-Err c =
    subst (Refuses c.in-Err.e) (sent_zipped (names_in c.args.context.scope) c.args.context.line c.args.parts.now (map out_of c.args.outs.now))
    (zipping_nothing _ _ _ _ _ _ _ _ c.loop-part.invariant _ c.loop-part-test.true c.part-item.is _ _ c.in-Some.ensures.cases.0 _ c.in-Err.ensures)

pub returns-in-None : goal.returns-in-None
returns-in-None c =
    sym (sent_zipped _ _ _ _) ∙ zipping_last _ _ _ _ _ _ _ _ c.loop-part.invariant c.loop-part-test.false c.in-None.ensures.cases

pub returns-in-Some-split_first : goal.returns-in-Some-split_first
returns-in-Some-split_first c =
    sym (sent_zipped _ _ _ _) ∙ zipping_long _ _ _ _ _ _ _ _ c.loop-part.invariant c.loop-part-test.false _ _ c.in-Some-split_first.ensures.cases.0
