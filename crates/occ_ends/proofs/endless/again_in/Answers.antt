use Rattle.std.proofs.Common.{◌≡◌, ◌∙◌, ◌+◌, ◌∷◌, [], ap, arith, length, length-append, subst, sym}
use Rattle.occ_ends.specs.Endless.{AgainTo}
use Rattle.occ_ends.proofs.ComingAgain.{all_again, none_yet, one_more}
use Rattle.occ_ends.proofs.endless.again_in.Goals as goal

pub loop-number-init : goal.loop-number-init
loop-number-init c =
    (ap length c.new-flags.ensures.items, λ keyboard net h. none_yet c.args.code.now.bodies net.tasks c.new-flags.result.items c.new-flags.ensures.items)

pub loop-number-preserved : goal.loop-number-preserved
loop-number-preserved c =
    let (many, again) = c.loop-number.invariant in
    let flags = c.loop-number.flags.items in
    let n = c.loop-number.number in
    let b = c.comes_again.result in (
      ap length c.in_ok-push.ensures.items ∙ (let l = length-append flags (b ∷ []) in omega (arith, l, many)),
      λ keyboard net h.
          subst (AgainTo c.args.code.now.bodies net.tasks (n + 1)) (sym c.in_ok-push.ensures.items)
          (one_more c.args.code.now.bodies net.tasks n flags b many (again keyboard net h) (λ is. c.comes_again.ensures.yes is keyboard net h) (λ isnt. c.comes_again.ensures.no isnt keyboard net h)),
    )

pub returns : goal.returns
returns c = λ keyboard net h.
    let (many, again) = c.loop-number.invariant in
    let all : length net.tasks ≡ c.args.count = ap length h.tasks ∙ h.sized.tasks_are ∙ sym c.requires in
    all_again c.args.code.now.bodies net.tasks c.loop-number.number c.loop-number.flags.items (omega (arith, all, c.loop-number-test.false)) (again keyboard net h)
