use Rattle.std.proofs.Common.{◌≡◌, ◌∙◌, min, length, ap, drop, subst, sym}
use Rattle.occ_term.specs.Messages.{product}
use Rattle.occ_term.specs.ArraySizes.{AreFew}
use Rattle.occ_term.proofs.Few.{few_behind}
use Rattle.occ_code.proofs.Emitting.{whole_rest, components_seen}
use Rattle.occ_code.proofs.expressions.components.Goals as goal

pub product-requires : goal.product-requires
product-requires c =
    subst AreFew (sym (whole_rest c.as_slice-sizes.result.now c.shorter-count.result))
    (few_behind c.shorter-count.result c.as_slice-sizes.result.now (subst AreFew (sym c.as_slice-sizes.ensures) c.few.ensures.each))

pub returns : goal.returns
returns c =
    let sizes = c.as_slice-sizes.ensures in
    let shorter : c.shorter-count.result ≡ min (length c.args.place.now.subscripts) (length c.args.place.now.sizes) =
    c.shorter-count.ensures ∙ ap (λ n. min n (length c.as_slice-sizes.result.now)) c.len.ensures ∙ ap (λ l. min (length c.args.place.now.subscripts) (length l)) sizes in
    c.product.ensures ∙ ap product (whole_rest c.as_slice-sizes.result.now c.shorter-count.result) ∙ ap (λ l. product (drop c.shorter-count.result l)) sizes
    ∙ components_seen c.args.place.now c.shorter-count.result shorter
