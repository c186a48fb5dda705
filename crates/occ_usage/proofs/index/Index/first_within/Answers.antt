use Rattle.std.proofs.Common.{◌≡◌, ◌<◌, length, get_or, sym, ap, ◌∙◌, arith}
use Rattle.occ_usage.specs.declared.index.Span.{Span}
use Rattle.occ_usage.proofs.Reaches.{covered_begun, covered_item, later_from, none_covered, within_none, within_some}
use Rattle.occ_usage.proofs.index.Index.first_within.Goals as goal

pub returns-then-reaches_past : goal.returns-then-reaches_past
returns-then-reaches_past c =
    within_some _ _ _ _ (omega arith) (omega arith)
    (covered_begun c.args.self.now.spans.items c.begun-begun.result c.args.first c.begun-begun.ensures.begun (sym c.reaches_past.ensures ∙ c.if-reaches_past.true))

pub returns-then-begun-len : goal.returns-then-begun-len
returns-then-begun-len c =
    within_none _ _ _ (λ n low high.
    none_covered c.args.self.now.spans.items c.begun-begun.result c.args.first c.args.end n (sym c.reaches_past.ensures ∙ c.if-reaches_past.false) (λ j d l h. absurd (omega (arith, c.if-begun-len.true, c.len.ensures))) low high)

pub returns-then-next-end : goal.returns-then-next-end
returns-then-next-end c =
    let spans = c.args.self.now.spans.items in
    let k = c.begun-begun.result in
    let inside : k < length spans = omega arith in
    let later : c.args.first < (get_or spans k c.index-next.result.now).first = c.begun-begun.ensures.later k c.index-next.result.now (omega arith) inside in
    let same : c.index-next.result.now.first ≡ (get_or spans k c.index-next.result.now).first = ap (λ (s : Span). s.first) c.index-next.ensures in
    within_some _ _ _ _ (omega (arith, later, same)) (omega arith) (covered_item spans k c.index-next.result.now c.index-next.ensures inside c.requires.filled)

pub returns-else-next-end : goal.returns-else-next-end
returns-else-next-end c =
    let spans = c.args.self.now.spans.items in
    let k = c.begun-begun.result in
    within_none _ _ _ (λ n low high.
    none_covered spans k c.args.first c.args.end n (sym c.reaches_past.ensures ∙ c.if-reaches_past.false)
    (later_from spans k c.args.end c.index-next.result.now c.index-next.ensures c.if-next-end.false c.requires.rises) low high)
