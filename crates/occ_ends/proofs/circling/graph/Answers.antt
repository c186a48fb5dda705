use Rattle.std.proofs.Common.{◌≡◌, ◌∙◌, ◌++◌, ◌∷◌, ◌+◌, [], ap, arith, subst, sym}
use Rattle.occ_ends.specs.Ends.{AreWaits, LeadWithin, edges_to, others_noted}
use Rattle.occ_ends.proofs.Rounds.{first_waits, first_within, next_waits, next_within}
use Rattle.occ_ends.proofs.circling.graph.Goals as goal

pub loop-number-init : goal.loop-number-init
loop-number-init c =
    let below = c.args.below in
    let fan = c.in_ok-first.first.items in
    let is : c.push.new.self ≡ fan ∷ [] = c.in_ok-push.ensures.ok ∙ ap (λ l. l ++ c.deref.result.now ∷ []) c.new-fans.ensures ∙ ap (λ l. l ∷ []) c.deref.ensures.value in (
      subst (LeadWithin below 0) (sym is) (first_within fan c.in_ok-first.ensures),
      λ p keyboard net h. subst (AreWaits (others_noted c.args.ends.now net.tasks) below 0) (sym is) (first_waits (others_noted c.args.ends.now net.tasks) fan c.in_ok-first.ensures),
    )

pub loop-number-preserved : goal.loop-number-preserved
loop-number-preserved c =
    let below = c.args.below in
    let number = c.loop-number.number in
    let fans = c.loop-number.fans in
    let fan = c.in_ok-fan.fan.items in
    let (within, waits) = c.loop-number.invariant in
    let is : c.push-in-loop-number.new.self ≡ fans ++ fan ∷ [] = c.in_ok-push-2.ensures.ok ∙ ap (λ l. fans ++ l ∷ []) c.deref-in-loop-number.ensures.value in (
      subst (LeadWithin below (number + 1)) (sym is) (next_within fans fan number c.as_slice.result.now within c.in_ok-fan.ensures),
      λ p keyboard net h.
          let next = others_noted c.args.ends.now net.tasks in
          let edges : fan ≡ edges_to number (next number) below = c.in_ok-fan.ensures ∙ ap (λ x. edges_to number x below) (c.as_slice.ensures.value ∙ c.in_ok-others.ensures p keyboard net h) in
          subst (AreWaits next below (number + 1)) (sym is) (next_waits next fans fan number (waits p keyboard net h) edges),
    )

pub returns-clause-waits : goal.returns-clause-waits
returns-clause-waits c = λ p keyboard net h.
    let (within, waits) = c.loop-number.invariant in
    let all : c.loop-number.number ≡ c.args.below = omega (arith, c.loop-number-test.false, c.loop-number.auto.number-end) in
    subst (λ k. AreWaits (others_noted c.args.ends.now net.tasks) c.args.below k c.loop-number.fans) all (waits p keyboard net h)
