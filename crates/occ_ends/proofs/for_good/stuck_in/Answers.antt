use Rattle.std.proofs.Common.{◌≡◌, ◌∙◌, [], ap, arith, inl, inr, map, refl, sym}
use Rattle.occ_ends.specs.Ends.{noted_for}
use Rattle.occ_ends.specs.ForGood.{amiss_by}
use Rattle.occ_ends.proofs.Leaving.{is_empty}
use Rattle.occ_ends.proofs.Stuck.{all_told, is_amiss, none_told, not_amiss}
use Rattle.occ_ends.proofs.for_good.stuck_in.Goals as goal

pub returns-then-is_empty : goal.returns-then-is_empty
returns-then-is_empty c = λ keyboard net h.
    let waiting = c.in_ok-waiting.waiting.items in
    let none : waiting ≡ [] = is_empty waiting (grind (arith, c.is_empty.ensures, c.if-is_empty.true)) in
    all_told (map noted_for c.args.uses.now) c.args.code.now net.tasks waiting waiting (c.in_ok-waiting.ensures keyboard net h) refl (inr none)

pub returns-then-is_amiss : goal.returns-then-is_amiss
returns-then-is_amiss c = λ keyboard net h.
    let us = map noted_for c.args.uses.now in
    let waiting = c.in_ok-waiting.waiting.items in
    let left = c.in_ok-left.left in
    let amiss = ap (amiss_by left) (sym c.as_slice.ensures.value) ∙ sym c.is_amiss.ensures ∙ c.if-is_amiss.true in
    all_told us c.args.code.now net.tasks waiting waiting (c.in_ok-waiting.ensures keyboard net h) refl (inl (is_amiss us c.args.code.now net.tasks waiting left (c.in_ok-left.ensures keyboard net h) amiss))

pub returns : goal.returns
returns c = λ keyboard net h.
    let us = map noted_for c.args.uses.now in
    let waiting = c.in_ok-waiting.waiting.items in
    let left = c.in_ok-left.left in
    let well = ap (amiss_by left) (sym c.as_slice.ensures.value) ∙ sym c.is_amiss.ensures ∙ c.if-is_amiss.false in
    none_told us c.args.code.now net.tasks waiting c.new-nobody.result.items (c.in_ok-waiting.ensures keyboard net h) c.new-nobody.ensures.items (not_amiss us c.args.code.now net.tasks waiting left (c.in_ok-left.ensures keyboard net h) well)
