use Rattle.std.proofs.Common.{◌≡◌, ◌∙◌, ◌+◌, ◌-◌, ◌<◌, ◌≤◌, ◌^◌, Bool, List, Some, ap, arith, length, rules, subst, sym, ℕ}
use Rattle.std.specs.Prelude.{slice_get}
use Rattle.occ_machine.specs.SameStop.{IsRising}
use Rattle.occ_net_replay.specs.declared.choice.Choice.{Choice}
use Rattle.occ_net_replay.specs.Replay.{Tasks, ready_from}
use Rattle.occ_net_tables.specs.Settling.{StandsBehind, TurnsBehind}
use Rattle.occ_net_tables.proofs.Placing.{placed_replays}
use Rattle.occ_net_tables.proofs.ReadyLists.{ready_rising}
use Rattle.occ_net.specs.Keeping.{KeepsReplay}
use Rattle.occ_net.specs.Networks.{IsState, Past}
use Rattle.occ_net.specs.Settling.{IsAmong}
use Rattle.occ_net.specs.Stretches.{SettlesAll, after_turns, choices_from, in_after}
use Rattle.occ_net.proofs.Ready.{place_small}
use Rattle.occ_net.proofs.Stretching.{among_own, behind_all, in_again, kept_all, settles_all, takes_now}
use Rattle.occ_net.proofs.network.Network.settle_all.Goals as goal

pub place_of-place-requires-clause-rising : goal.place_of-place-requires-clause-rising
place_of-place-requires-clause-rising c =
    let k = c.self.invariant in
    let p = c.self.inside.code in
    let kb : List ℕ = c.self.inside.keyboard.items in
    let ready = c.ready.ensures p kb k.net (k.holds k.net (placed_replays p kb k.places)) in
    subst IsRising (sym ready) (ready_rising 0 k.net.tasks)

pub place_of-place-requires-clause-among : goal.place_of-place-requires-clause-among
place_of-place-requires-clause-among c =
    let k = c.self.invariant in
    let past : Past = record { program = c.self.inside.code; keyboard = c.self.inside.keyboard.items; choices = c.self.inside.choices.items; out = c.self.inside.out.items } in
    let takes = takes_now past c.args.self.now c.self.inside.tables k c.self.view_is c.args.number c.args.count c.args.after c.requires.turns in
    let ready = c.ready.ensures past.program past.keyboard k.net (k.holds k.net (placed_replays past.program past.keyboard k.places)) in
    subst (λ l. IsAmong l c.args.number) (sym ready) (among_own past c.self.inside.tables k c.args.number c.args.count c.args.after takes)

pub settle_last-requires : goal.settle_last-requires
settle_last-requires c =
    let k = c.self.invariant in
    let past : Past = record { program = c.self.inside.code; keyboard = c.self.inside.keyboard.items; choices = c.self.inside.choices.items; out = c.self.inside.out.items } in
    let takes = takes_now past c.args.self.now c.self.inside.tables k c.self.view_is c.args.number c.args.count c.args.after c.requires.turns in
    let ready = c.ready.ensures past.program past.keyboard k.net (k.holds k.net (placed_replays past.program past.keyboard k.places)) in
    let at : slice_get (ready_from 0 k.net.tasks) c.place_of-place.result ≡ Some c.args.number = subst (λ l. slice_get l c.place_of-place.result ≡ Some c.args.number) ready c.place_of-place.ensures in
    let v = c.self.inside.choices in
    let few : length past.choices + 2 ^ 32 + 1 < 2 ^ 64 = omega (arith, v.ok.0, v.ok.1, v.small) in
    let small : c.args.count < 2 ^ 32 = (let picks = c.requires.picks in omega (arith, picks)) in
    subst (λ (kb : List ℕ). StandsBehind past.program kb c.self.inside.tables c.place_of-place.result c.args.number c.args.after) (sym c.deref.ensures.value)
    (behind_all past c.self.inside.tables k c.args.number c.args.count c.args.after takes c.compiled.ensures few small c.place_of-place.result c.args.pick at)

pub overflow_cast-place : goal.overflow_cast-place
overflow_cast-place c =
    let k = c.self.invariant in
    let p = c.self.inside.code in
    let kb : List ℕ = c.self.inside.keyboard.items in
    let ready = c.ready.ensures p kb k.net (k.holds k.net (placed_replays p kb k.places)) in
    let small : c.place_of-place.result ≤ c.args.number = place_small k.net.tasks c.place_of-place.result c.args.number (subst (λ l. slice_get l c.place_of-place.result ≡ Some c.args.number) ready c.place_of-place.ensures) in
    let number : c.args.number < 2 ^ 32 = search rules in
    record { fits = omega (arith, small, number) }

pub invariant_of-self-2 : goal.invariant_of-self-2
invariant_of-self-2 c =
    let k = c.self.invariant in
    let past : Past = record { program = c.self.inside.code; keyboard = c.self.inside.keyboard.items; choices = c.self.inside.choices.items; out = c.self.inside.out.items } in
    let takes = takes_now past c.args.self.now c.self.inside.tables k c.self.view_is c.args.number c.args.count c.args.after c.requires.turns in
    let ready = c.ready.ensures past.program past.keyboard k.net (k.holds k.net (placed_replays past.program past.keyboard k.places)) in
    let place : ℕ = c.place_of-place.result in
    let at : slice_get (ready_from 0 k.net.tasks) place ≡ Some c.args.number = subst (λ l. slice_get l place ≡ Some c.args.number) ready c.place_of-place.ensures in
    let v = c.self.inside.choices in
    let few : length past.choices + 2 ^ 32 + 1 < 2 ^ 64 = omega (arith, v.ok.0, v.ok.1, v.small) in
    let picks = c.requires.picks in
    let small : c.args.count < 2 ^ 32 = omega (arith, picks) in
    let some = takes.own.some in
    let new = c.settle_last.new.self in
    let last : ℕ = c.args.pick + (c.args.count - 1) in
    let turns : TurnsBehind past.program past.keyboard c.self.inside.tables place c.args.number c.args.after last new = rw c.deref.ensures.value at c.in-Ok.ensures.ok.1 in
    let kept : KeepsReplay (after_turns past place c.args.pick c.args.number c.args.count) new = kept_all past c.self.inside.tables k c.args.number c.args.count c.args.after takes c.compiled.ensures few small place c.args.pick at last (omega (arith, some)) new turns in
    let stored : c.push_all.new.choices.items ≡ choices_from place c.args.pick past.choices c.args.count = c.push_all.ensures ∙ ap (λ (l : List Choice). choices_from place c.args.pick l c.args.count) c.reserve.ensures.items in
    let marked : c.mark.new.out.items ≡ in_after past.out c.args.number c.args.count = c.mark.ensures ∙ sym (in_again past.out c.args.number c.args.count some) in
    subst (λ (cs : List Choice). KeepsReplay record { program = past.program; keyboard = past.keyboard; choices = cs; out = c.mark.new.out.items } new) (sym stored)
    (subst (λ (out : List Bool). KeepsReplay record { program = past.program; keyboard = past.keyboard; choices = choices_from place c.args.pick past.choices c.args.count; out = out } new) (sym marked) kept)

pub returns-clause-settled : goal.returns-clause-settled
returns-clause-settled c =
    let k = c.self.invariant in
    let past : Past = record { program = c.self.inside.code; keyboard = c.self.inside.keyboard.items; choices = c.self.inside.choices.items; out = c.self.inside.out.items } in
    let takes = takes_now past c.args.self.now c.self.inside.tables k c.self.view_is c.args.number c.args.count c.args.after c.requires.turns in
    let ready = c.ready.ensures past.program past.keyboard k.net (k.holds k.net (placed_replays past.program past.keyboard k.places)) in
    let place : ℕ = c.place_of-place.result in
    let at : slice_get (ready_from 0 k.net.tasks) place ≡ Some c.args.number = subst (λ l. slice_get l place ≡ Some c.args.number) ready c.place_of-place.ensures in
    let v = c.self.inside.choices in
    let few : length past.choices + 2 ^ 32 + 1 < 2 ^ 64 = omega (arith, v.ok.0, v.ok.1, v.small) in
    let picks = c.requires.picks in
    let small : c.args.count < 2 ^ 32 = omega (arith, picks) in
    let some = takes.own.some in
    let stored : c.push_all.new.choices.items ≡ choices_from place c.args.pick past.choices c.args.count = c.push_all.ensures ∙ ap (λ (l : List Choice). choices_from place c.args.pick l c.args.count) c.reserve.ensures.items in
    let marked : c.mark.new.out.items ≡ in_after past.out c.args.number c.args.count = c.mark.ensures ∙ sym (in_again past.out c.args.number c.args.count some) in
    let new : Past = record { program = past.program; keyboard = past.keyboard; choices = c.push_all.new.choices.items; out = c.mark.new.out.items } in
    let is : new ≡ after_turns past place c.args.pick c.args.number c.args.count =
    ap (λ (cs : List Choice). record past { choices = cs; out = c.mark.new.out.items }) stored ∙ ap (λ (out : List Bool). record past { choices = choices_from place c.args.pick past.choices c.args.count; out = out }) marked
    in
    subst (λ (n : Past). SettlesAll n c.args.number c.args.count c.args.pick new) c.self.view_is
    (settles_all past c.self.inside.tables k c.args.number c.args.count c.args.after takes c.compiled.ensures few small place c.args.pick at new is)

pub returns-clause-spent : goal.returns-clause-spent
returns-clause-spent c = λ net s.
    let k = c.self.invariant in
    let past : Past = record { program = c.self.inside.code; keyboard = c.self.inside.keyboard.items; choices = c.self.inside.choices.items; out = c.self.inside.out.items } in
    let state : IsState past net = subst (λ (n : Past). IsState n net) (sym c.self.view_is) s in
    ap (λ (l : Tasks). slice_get l c.args.number) (k.holds net state).tasks ∙ c.in-Ok.ensures.ok.0

pub overflow_sub-last : goal.overflow_sub-last
overflow_sub-last c =
    let k = c.self.invariant in
    let past : Past = record { program = c.self.inside.code; keyboard = c.self.inside.keyboard.items; choices = c.self.inside.choices.items; out = c.self.inside.out.items } in
    let takes = takes_now past c.args.self.now c.self.inside.tables k c.self.view_is c.args.number c.args.count c.args.after c.requires.turns in
    let some = takes.own.some in
    omega (arith, some)
