use Rattle.std.proofs.Common.{◌*◌, ◌+◌, drop, min, ap, sym, ◌∙◌}
use Rattle.occ_term.specs.Messages.{product}
use Rattle.occ_term.proofs.Saturating.{saturates}
use Rattle.occ_usage.proofs.Components.{product_next}
use Rattle.occ_usage.proofs.places.components.Goals as goal

pub loop-size-preserved : goal.loop-size-preserved
loop-size-preserved c =
    let rest = product (drop (c.loop-size.size-index + 1) c.args.sizes.now) in
    ap (λ x. min (x * rest) 18446744073709551615) (c.saturating_mul-all.ensures ∙ ap (λ n. min (c.loop-size.all * n) 18446744073709551615) c.from.ensures)
    ∙ saturates c.loop-size.all _ rest 18446744073709551615
    ∙ ap (λ x. min (c.loop-size.all * x) 18446744073709551615) (sym (product_next c.args.sizes.now c.loop-size.size-index c.loop-size-test.true))
    ∙ c.loop-size.invariant
