use Rattle.std.proofs.Common.{◌∙◌, ap, subst, sym}
use Rattle.occ_chart.specs.Columns.{AreColumns, with_ends, with_standing}
use Rattle.occ_chart.proofs.Ordering.{columns_are}
use Rattle.occ_chart.proofs.columns.columns.Goals as goal

pub returns : goal.returns
returns c =
    let first = c.in_ok-add_ends.ensures ∙ ap (λ cs. with_ends cs c.args.shown.now) c.new-columns.ensures.items in
    let all = c.in_ok-add_stubs.ensures ∙ ap (λ cs. with_standing cs c.args.stubs.now) first in
    subst (λ cs. AreColumns c.args.shown.now c.args.stubs.now cs) (sym all) (columns_are c.args.shown.now c.args.stubs.now)
