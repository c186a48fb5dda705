use Rattle.std.proofs.Common.{◌≡◌, ◌∙◌, sym, ap, ℕ, zero, suc, ◌+◌, ◌*◌, ◌≤◌, min, get_or, drop, arith, mul_assoc, mul-suc}
use Rattle.std.proofs.lemmas.List.{drop_more}
use Rattle.occ_term.specs.Messages.{product}
use Rattle.occ_term.specs.UnfoldedProgram.{most_cells}
use Rattle.occ_term.proofs.value.components.Goals as goal

below : (a b c : ℕ) → a * suc b ≡ c → c ≤ most_cells → a ≤ most_cells
below a b c e h = omega (arith, mul-suc a b)

-- where a product saturates, another size is 0
step : (count size rest all : ℕ) → count * (size * rest) ≡ all → all ≤ most_cells → min (count * size) 4294967295 * rest ≡ all
step count size zero all e h = grind arith
step count size (suc rest) all e h =
    let k : (count * size) * suc rest ≡ all = mul_assoc count size (suc rest) ∙ e in
    let small : count * size ≤ most_cells = below (count * size) rest all k h in
    let m : min (count * size) 4294967295 ≡ count * size = omega arith in
    ap (λ x. x * suc rest) m ∙ k

pub loop-size-preserved : goal.loop-size-preserved
loop-size-preserved c = λ h.
    let all = product c.args.sizes.now in
    let more = ap product (drop_more c.args.sizes.now c.loop-size.size-index 0 c.loop-size-test.true) in
    ap (λ x. x * product (drop (c.loop-size.size-index + 1) c.args.sizes.now)) c.saturating_mul-count.ensures
    ∙ step c.loop-size.count (get_or c.args.sizes.now c.loop-size.size-index 0) (product (drop (c.loop-size.size-index + 1) c.args.sizes.now)) all
    (ap (λ x. c.loop-size.count * x) (sym more) ∙ c.loop-size.invariant h) h
