use Rattle.std.proofs.Common.{◌≡◌, ◌∙◌, ◌+◌, ◌-◌, ◌<◌, ap, arith, drop, length, rules, []}
use Rattle.occ_check_meaning.specs.Items.{tag_number}
use Rattle.occ_check_lines.proofs.TagLists.{none_behind, one_before}
use Rattle.occ_check_lines.proofs.tags.numbers_of.Goals as goal

pub loop-left-init : goal.loop-left-init
loop-left-init c =
    let none : c.new-numbers.result.entries ≡ [] = search rules in
    (omega arith, none_behind c.args.tags.now c.new-numbers.result.entries none)

pub loop-left-preserved : goal.loop-left-preserved
loop-left-preserved c =
    let tags = c.args.tags.now in
    let i = c.loop-left.left - 1 in
    let within = c.loop-left.invariant.0 in
    let some = c.loop-left-test.true in
    let below : i < length tags = omega (arith, within, some) in
    let next : c.loop-left.left ≡ i + 1 = omega (arith, some) in
    let named : c.in_ok-name.name ≡ c.index-tags-left.result.name = search rules in (
      omega (arith, within),
      one_before tags i c.index-tags-left.result c.loop-left.numbers.entries c.insert.new.self.entries c.in_ok-name.name below (named ∙ ap (λ t. t.name) c.index-tags-left.is) c.in_ok-insert.ensures.entries
          (λ x. c.loop-left.invariant.1 x ∙ ap (λ k. tag_number (drop k tags) x k) next),
    )
