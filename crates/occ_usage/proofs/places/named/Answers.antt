use Rattle.std.proofs.Common.{◌<◌, get_or, length, ap, subst, sym, ◌∙◌}
use Rattle.occ_usage.proofs.Components.{names_next}
use Rattle.occ_usage.proofs.places.named.Goals as goal

pub loop-subscript-preserved : goal.loop-subscript-preserved
loop-subscript-preserved c =
    let same = c.as_slice-subscript-items.ensures in
    let below : c.loop-subscript.subscript-index < length c.args.place.now.subscripts = subst (λ es. c.loop-subscript.subscript-index < length es) same c.loop-subscript-test.true in
    names_next _ _ _ _ _ _ _ c.subscript-item.result c.in-Some.size.now below
    (c.subscript-item.is ∙ ap (λ es. get_or es c.loop-subscript.subscript-index c.subscript-item.result) same)
    c.in-Some.ensures.cases.0 c.loop-subscript.invariant (sym c.in-Some-component.is ∙ c.component.ensures)
