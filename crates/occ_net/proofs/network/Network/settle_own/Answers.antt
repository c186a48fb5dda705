use Rattle.std.proofs.Common.{◌≡◌, ◌∙◌, ◌+◌, ◌<◌, ◌≤◌, ◌^◌, ◌∷◌, ◌++◌, [], Bool, IsTrue, List, Some, ap, arith, length, rules, subst, sym, ℕ}
use Rattle.std.specs.Prelude.{slice_get}
use Rattle.occ_machine.specs.SameStop.{IsRising}
use Rattle.occ_net_replay.specs.declared.choice.Choice.{Choice}
use Rattle.occ_net_replay.specs.Replay.{HasTask, Net, may_go, ready_from}
use Rattle.occ_net_tables.specs.Holding.{Holds}
use Rattle.occ_net_tables.specs.Settling.{Standing, TurnsTo}
use Rattle.occ_net_tables.proofs.Placing.{placed_replays}
use Rattle.occ_net_tables.proofs.ReadyLists.{ready_rising}
use Rattle.occ_net.specs.Keeping.{KeepsReplay}
use Rattle.occ_net.specs.Networks.{Past}
use Rattle.occ_net.specs.Settling.{IsAmong, CanSettle}
use Rattle.occ_net.proofs.Ready.{among_ready, place_small, turn_may}
use Rattle.occ_net.proofs.States.{kept_turn, stands, turn_at, will_take}
use Rattle.occ_net.proofs.network.Network.settle_own.Goals as goal

pub place_of-place-requires-clause-rising : goal.place_of-place-requires-clause-rising
place_of-place-requires-clause-rising c =
    let k = c.self.invariant in
    let p = c.self.inside.code in
    let kb : List ℕ = c.self.inside.keyboard.items in
    let ready = c.ready.ensures p kb k.net (k.holds k.net (placed_replays p kb k.places)) in
    subst IsRising (sym ready) (ready_rising 0 k.net.tasks)

pub place_of-place-requires-clause-among : goal.place_of-place-requires-clause-among
place_of-place-requires-clause-among c =
    let k = c.self.invariant in
    let past : Past = record { program = c.self.inside.code; keyboard = c.self.inside.keyboard.items; choices = c.self.inside.choices.items; out = c.self.inside.out.items } in
    let takes : CanSettle past k.net c.args.segment = will_take past c.args.self.now c.self.inside.tables k c.self.view_is c.args.segment c.requires in
    let ready = c.ready.ensures past.program past.keyboard k.net (k.holds k.net (placed_replays past.program past.keyboard k.places)) in
    let before = c.into_parts-body.ensures.before in
    let there : HasTask k.net.tasks c.into_parts-body.result.1.number c.into_parts-body.result.1 = subst (λ t. HasTask k.net.tasks t.number t) (sym before) takes.own.task in
    let may : IsTrue (may_go c.into_parts-body.result.1.wait) = turn_may _ _ _ c.into_parts-body.ensures.turn in
    subst (λ l. IsAmong l c.into_parts-body.result.1.number) (sym ready) (among_ready k.net.tasks c.into_parts-body.result.1.number c.into_parts-body.result.1 there may)

pub settle_turn-requires-clause-standing : goal.settle_turn-requires-clause-standing
settle_turn-requires-clause-standing c =
    let k = c.self.invariant in
    let past : Past = record { program = c.self.inside.code; keyboard = c.self.inside.keyboard.items; choices = c.self.inside.choices.items; out = c.self.inside.out.items } in
    let takes : CanSettle past k.net c.args.segment = will_take past c.args.self.now c.self.inside.tables k c.self.view_is c.args.segment c.requires in
    let few : 1 + length c.self.inside.choices.items < 2 ^ 64 = search rules in
    subst (λ kb. Standing past.program kb c.self.inside.tables) (sym c.deref.ensures.value) (stands past c.self.inside.tables k few takes.going)

pub settle_turn-requires-clause-turn : goal.settle_turn-requires-clause-turn
settle_turn-requires-clause-turn c =
    let k = c.self.invariant in
    let past : Past = record { program = c.self.inside.code; keyboard = c.self.inside.keyboard.items; choices = c.self.inside.choices.items; out = c.self.inside.out.items } in
    let takes : CanSettle past k.net c.args.segment = will_take past c.args.self.now c.self.inside.tables k c.self.view_is c.args.segment c.requires in
    let holds = k.holds k.net (placed_replays past.program past.keyboard k.places) in
    let ready = c.ready.ensures past.program past.keyboard k.net holds in
    turn_at past k.net c.args.segment c.self.inside.tables holds takes.own c.place_of-place.result _ c.into_parts-body.result.1 c.into_parts-body.result.2
    (subst (λ l. slice_get l c.place_of-place.result ≡ Some c.into_parts-body.result.1.number) ready c.place_of-place.ensures)
    c.into_parts-body.ensures.body c.into_parts-body.ensures.before c.into_parts-body.ensures.turn

pub overflow_cast-which : goal.overflow_cast-which
overflow_cast-which c =
    let k = c.self.invariant in
    let p = c.self.inside.code in
    let kb : List ℕ = c.self.inside.keyboard.items in
    let ready = c.ready.ensures p kb k.net (k.holds k.net (placed_replays p kb k.places)) in
    let small : c.place_of-place.result ≤ c.into_parts-body.result.1.number =
    place_small k.net.tasks c.place_of-place.result c.into_parts-body.result.1.number (subst (λ l. slice_get l c.place_of-place.result ≡ Some c.into_parts-body.result.1.number) ready c.place_of-place.ensures)
    in
    let number : c.into_parts-body.result.1.number < 2 ^ 32 = search rules in
    record { fits = omega (arith, small, number) }

pub invariant_of-self-2 : goal.invariant_of-self-2
invariant_of-self-2 c =
    let k = c.self.invariant in
    let past : Past = record { program = c.self.inside.code; keyboard = c.self.inside.keyboard.items; choices = c.self.inside.choices.items; out = c.self.inside.out.items } in
    let takes : CanSettle past k.net c.args.segment = will_take past c.args.self.now c.self.inside.tables k c.self.view_is c.args.segment c.requires in
    let few : 1 + length c.self.inside.choices.items < 2 ^ 64 = search rules in
    let ready = c.ready.ensures past.program past.keyboard k.net (k.holds k.net (placed_replays past.program past.keyboard k.places)) in
    let place = c.place_of-place.result in
    let number = c.into_parts-body.result.1.number in
    let at : slice_get (ready_from 0 k.net.tasks) place ≡ Some number = subst (λ l. slice_get l place ≡ Some number) ready c.place_of-place.ensures in
    let turns : (net : Net) (choice : Choice) → Holds past.program past.keyboard c.self.inside.tables net → place ≡ choice.which → c.args.pick ≡ choice.pick → TurnsTo past.program past.keyboard choice net c.settle_turn.new.self =
    rw c.deref.ensures.value at c.in-Ok.ensures.ok
    in
    let stored : past.choices ++ record { which = place; pick = c.args.pick } ∷ [] ≡ c.push_reserved.new.self.items =
    sym (c.push_reserved.ensures.items ∙ ap (λ (l : List Choice). l ++ record { which = place; pick = c.args.pick } ∷ []) c.reserve.ensures.items)
    in
    subst (λ (cs : List Choice). KeepsReplay record { program = past.program; keyboard = past.keyboard; choices = cs; out = c.mark.new.out.items } c.settle_turn.new.self) stored
    (subst (λ (out : List Bool). KeepsReplay record { program = past.program; keyboard = past.keyboard; choices = past.choices ++ record { which = place; pick = c.args.pick } ∷ []; out = out } c.settle_turn.new.self) (sym c.mark.ensures)
    (kept_turn past c.self.inside.tables c.settle_turn.new.self k c.compiled.ensures few takes.going place c.args.pick number at turns))
