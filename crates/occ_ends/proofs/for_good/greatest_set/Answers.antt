use Rattle.std.proofs.Common.{◌≡◌, ◌∙◌, ap, length, map, sym}
use Rattle.occ_ends.specs.Ends.{noted_for}
use Rattle.occ_ends.proofs.Leaving.{all_within}
use Rattle.occ_ends.proofs.for_good.greatest_set.Goals as goal

pub loop-init : goal.loop-init
loop-init c = λ keyboard net h.
    let all : length net.tasks ≡ c.args.count = ap length h.tasks ∙ h.sized.tasks_are ∙ sym c.requires in
    all_within (map noted_for c.args.uses.now) net.tasks c.args.count c.in_ok-flags.flags.items (c.in_ok-flags.ensures.items_if_clones_equal (λ y e. e)) all

pub loop-preserved : goal.loop-preserved
loop-preserved c = λ keyboard net h set has closed n inside.
    c.leave_out_insides.ensures net.tasks set closed (c.leave_out_all.ensures c.args.code.now keyboard net h set closed (c.loop.invariant keyboard net h set has closed)) n inside
