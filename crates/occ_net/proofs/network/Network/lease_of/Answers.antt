use Rattle.std.proofs.Common.{◌∙◌, ◌+◌, ◌<◌, ◌^◌, IsTrue, Some, ap, arith, length, rules, subst, sym}
use Rattle.occ_machine.specs.declared.task.Task.{Task}
use Rattle.occ_net_replay.specs.Replay.{HasTask, may_go}
use Rattle.occ_net_replay.proofs.Tables.{task_once}
use Rattle.occ_net_tables.proofs.Branches.{has_body}
use Rattle.occ_net_tables.proofs.Placing.{places_replay}
use Rattle.occ_net.specs.Networks.{IsState, Past}
use Rattle.occ_net.specs.Leases.{IsOwnLease}
use Rattle.occ_net.proofs.Leased.{MayTurn, body_there, can_turn, will_turn}
use Rattle.occ_net.proofs.Numbers.{all_numbered}
use Rattle.occ_net.proofs.Stretching.{going_leased, goes_on_leased}
use Rattle.occ_net.proofs.network.Network.lease_of.Goals as goal

pub unreachable-requires : goal.unreachable-requires
unreachable-requires c =
    let past : Past = record { program = c.self.inside.code; keyboard = c.self.inside.keyboard.items; choices = c.self.inside.choices.items; out = c.self.inside.out.items } in
    let few : 1 + length c.self.inside.choices.items < 2 ^ 64 = search rules in
    let t : MayTurn c.self.invariant.net c.args.number = will_turn past c.args.self.now c.self.inside.tables c.self.invariant c.self.view_is c.args.number c.requires in
    has_body past.program c.args.number (body_there past c.self.inside.tables c.self.invariant c.compiled.ensures few c.args.number t.task t.there) c.in_default.ensures.none

pub unreachable-requires-in_default-task : goal.unreachable-requires-in_default-task
unreachable-requires-in_default-task c =
    let past : Past = record { program = c.self.inside.code; keyboard = c.self.inside.keyboard.items; choices = c.self.inside.choices.items; out = c.self.inside.out.items } in
    let k = c.self.invariant in
    let t : MayTurn k.net c.args.number = will_turn past c.args.self.now c.self.inside.tables k c.self.view_is c.args.number c.requires in
    c.in_default-task.ensures.none past.program past.keyboard k.net t.task (k.holds k.net (places_replay past.program past.keyboard k.places)) t.there

pub returns-clause-own : goal.returns-clause-own
returns-clause-own c = λ net s.
    let past : Past = record { program = c.self.inside.code; keyboard = c.self.inside.keyboard.items; choices = c.self.inside.choices.items; out = c.self.inside.out.items } in
    let state : IsState past net = subst (λ (n : Past). IsState n net) (sym c.self.view_is) s in
    let there : HasTask net.tasks c.args.number c.in_ok-task.task = subst (λ (t : Task). HasTask net.tasks c.args.number t) (sym c.in_ok-task.ensures) (c.in-Some-task.ensures.some past.program past.keyboard net (c.self.invariant.holds net state)) in
    subst (λ (n : Past). IsOwnLease n net c.args.number record { body = c.in_ok-body.body; task = c.in_ok-task.task }) c.self.view_is
    record {
      number_is = all_numbered past.program past.keyboard state c.args.number c.in_ok-task.task there;
      body = c.in-Some.ensures.some ∙ ap (λ b. Some b) (sym c.in_ok-body.ensures);
      task = there;
    }

pub returns-clause-can : goal.returns-clause-can
returns-clause-can c =
    let past : Past = record { program = c.self.inside.code; keyboard = c.self.inside.keyboard.items; choices = c.self.inside.choices.items; out = c.self.inside.out.items } in
    let k = c.self.invariant in
    let few : 1 + length c.self.inside.choices.items < 2 ^ 64 = search rules in
    let t : MayTurn k.net c.args.number = will_turn past c.args.self.now c.self.inside.tables k c.self.view_is c.args.number c.requires in
    let there : HasTask k.net.tasks c.args.number c.in-Some-task.task.now = c.in-Some-task.ensures.some past.program past.keyboard k.net (k.holds k.net (places_replay past.program past.keyboard k.places)) in
    let may : IsTrue (may_go c.in-Some-task.task.now.wait) = subst (λ (u : Task). IsTrue (may_go u.wait)) (task_once k.net.tasks c.args.number t.there there) t.may in
    can_turn past c.self.inside.tables k c.compiled.ensures few c.args.number _ _ c.in-Some-task.task.now c.in_ok-body.ensures c.in_ok-task.ensures c.in-Some.ensures.some there may

pub returns-clause-goes_on : goal.returns-clause-goes_on
returns-clause-goes_on c =
    let past : Past = record { program = c.self.inside.code; keyboard = c.self.inside.keyboard.items; choices = c.self.inside.choices.items; out = c.self.inside.out.items } in
    let k = c.self.invariant in
    let v = c.self.inside.choices in
    let few : length past.choices + 2 ^ 32 + 1 < 2 ^ 64 = omega (arith, v.ok.0, v.ok.1, v.small) in
    let g = going_leased past c.args.self.now c.self.inside.tables k c.self.view_is c.args.number c.requires in
    let there : HasTask k.net.tasks c.args.number c.in-Some-task.task.now = c.in-Some-task.ensures.some past.program past.keyboard k.net (k.holds k.net (places_replay past.program past.keyboard k.places)) in
    goes_on_leased past c.self.inside.tables k c.compiled.ensures few g.going g.place.place c.args.number g.place.at _ c.in-Some.ensures.some c.in-Some-task.task.now there (record { body = c.in_ok-body.body; task = c.in_ok-task.task }) c.in_ok-body.ensures c.in_ok-task.ensures
