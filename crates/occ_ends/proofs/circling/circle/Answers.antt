use Rattle.std.proofs.Common.{◌≡◌, ◌<◌, ◌≤◌, ◌∙◌, [], ap, arith, length, map, subst, sym}
use Rattle.occ_explore_laws.specs.declared.graph.Lasting.TheVariants.{Forever, Within}
use Rattle.occ_explore_laws.specs.Walks.{IsLasting}
use Rattle.occ_ends.specs.Ends.{AreWaits, Circles, IsCircle, IsRing, others_noted}
use Rattle.occ_ends.proofs.Rounds.{no_waits, ring_is, some_circles, within_graph}
use Rattle.occ_ends.proofs.circling.circle.Goals as goal

pub lasting-requires : goal.lasting-requires
lasting-requires c =
    let few : c.min-below.result ≤ 4294967294 = let is = c.min-below.ensures in omega (arith, is) in
    within_graph c.in_ok-fans.fans few c.in_ok-fans.ensures.within

pub returns-in-Within : goal.returns-in-Within
returns-in-Within c = λ p keyboard net h.
    let fans = c.in_ok-fans.fans in
    let next = others_noted c.args.ends.now net.tasks in
    let waits : AreWaits next c.min-below.result c.min-below.result fans = c.in_ok-fans.ensures.waits p keyboard net h in
    let lasts : IsLasting fans (Within c.in-Within.field-0) = subst (IsLasting fans) c.in-Within.is c.in_ok-round.ensures in
    let none : IsCircle next c.min-below.result [] = no_waits waits c.in-Within.field-0 lasts.0 in
    subst (λ k. IsCircle next k c.new.result.items) c.min-below.ensures (subst (IsCircle next c.min-below.result) (sym c.new.ensures.items) none)

pub returns : goal.returns
returns c = λ p keyboard net h.
    let fans = c.in_ok-fans.fans in
    let next = others_noted c.args.ends.now net.tasks in
    let waits : AreWaits next c.min-below.result c.min-below.result fans = c.in_ok-fans.ensures.waits p keyboard net h in
    let lasts : IsLasting fans (Forever c.in-Forever.way c.in-Forever.round) =
    subst (IsLasting fans) c.in-Forever.is c.in_ok-round.ensures in
    let same : c.in_ok-numbers-in-Forever.numbers.items ≡ map (λ x. x.choice.which) c.in-Forever.round.items = c.in_ok-numbers-in-Forever.ensures ∙ ap (map (λ x. x.choice.which)) c.as_slice.ensures.value in
    let found = some_circles waits c.in-Forever.way.items c.in-Forever.round.items lasts in
    let whole : c.as_slice-in-Forever.result.now ≡ map (λ x. x.choice.which) c.in-Forever.round.items = c.as_slice-in-Forever.ensures.value ∙ same in
    let ring : IsRing next c.in_ok-ring-in-Forever.ring.items =
    c.in_ok-ring-in-Forever.ensures next (subst (λ ns. 0 < length ns) (sym whole) found.0) (subst (Circles next) (sym whole) found.1) in
    subst (λ k. IsCircle next k c.in_ok-ring-in-Forever.ring.items) c.min-below.ensures (ring_is next c.min-below.result c.in_ok-ring-in-Forever.ring.items ring)
