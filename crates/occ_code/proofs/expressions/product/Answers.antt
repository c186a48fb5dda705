use Rattle.std.proofs.Common.{◌≡◌, ◌<◌, ◌+◌, ◌-◌, length, refl, subst, sym, arith}
use Rattle.occ_term.proofs.Few.{few_behind, few_product}
use Rattle.occ_code.proofs.Emitting.{product_before}
use Rattle.occ_code.proofs.expressions.product.Goals as goal

pub times-all-requires : goal.times-all-requires
times-all-requires c =
    let (within, all) = c.loop-count.invariant in
    let some : 0 < c.loop-count.count = c.loop-count-test.true in
    let next : c.loop-count.count ≡ c.loop-count.count - 1 + 1 = omega (arith, some) in
    let lt : c.loop-count.count - 1 < length c.args.sizes.now = omega (arith, some, within) in
    subst (λ n. n < 4294967296) (sym (product_before c.args.sizes.now (c.loop-count.count - 1) c.loop-count.count _ c.loop-count.all next lt refl all))
    (few_product _ (few_behind (c.loop-count.count - 1) c.args.sizes.now c.requires))
