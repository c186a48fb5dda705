use Rattle.std.proofs.Common.{◌≡◌, ◌≤◌, ◌<◌, ◌-◌, ◌^◌, ℕ, List, length, take, drop, ap, subst, sym, ◌∙◌, arith}
use Rattle.std.proofs.lemmas.Grind.{common_steps}
use Rattle.occ_term.specs.Messages.{product}
use Rattle.occ_term.specs.ArraySizes.{AreFew}
use Rattle.occ_term.proofs.Few.{few_behind, few_product}
use Rattle.occ_usage.proofs.Components.{cells_left, one_left}
use Rattle.occ_usage.proofs.places.cells_of_place.Goals as goal

rest : (s : List ℕ) (n : ℕ) → take (length s - n) (drop n s) ≡ drop n s
rest s n = grind (arith, common_steps)

pub components-requires : goal.components-requires
components-requires c =
    let few : AreFew (drop c.len-subscripts.result c.as_slice-sizes.result.now) = few_behind c.len-subscripts.result c.as_slice-sizes.result.now (subst AreFew (sym c.as_slice-sizes.ensures) c.few.ensures.each) in
    subst (λ s. product s < 2 ^ 32) (sym (rest c.as_slice-sizes.result.now c.len-subscripts.result)) (few_product (drop c.len-subscripts.result c.as_slice-sizes.result.now) few)

pub returns-then-subscripts-sizes-clause-cells : goal.returns-then-subscripts-sizes-clause-cells
returns-then-subscripts-sizes-clause-cells c =
    c.components.ensures.all ∙ ap product (rest c.as_slice-sizes.result.now c.len-subscripts.result) ∙ ap (λ s. product (drop c.len-subscripts.result s)) c.as_slice-sizes.ensures
    ∙ ap (λ n. product (drop n c.args.place.now.sizes)) c.len-subscripts.ensures ∙ cells_left c.args.place.now

pub returns-else-subscripts-sizes-clause-cells : goal.returns-else-subscripts-sizes-clause-cells
returns-else-subscripts-sizes-clause-cells c =
    one_left c.args.place.now (let small : length c.as_slice-sizes.result.now ≤ c.len-subscripts.result = c.if-subscripts-sizes.false in omega (arith, ap length c.as_slice-sizes.ensures, c.len-subscripts.ensures))
