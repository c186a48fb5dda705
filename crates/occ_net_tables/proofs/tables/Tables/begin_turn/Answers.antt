use Rattle.std.proofs.Common.{◌≡◌, ◌∙◌, ◌%◌, ℕ, refl, sym, ap, length, Some, arith}
use Rattle.occ_proc.specs.Turns.{left_message}
use Rattle.occ_net_tables.specs.Tasks.{EndedBy}
use Rattle.occ_net_tables.proofs.Branches.{has_body}
use Rattle.occ_net_tables.proofs.Turned.{body_small, chosen, has_turn, number_small, place_within, read_at, some_ready}
use Rattle.occ_net_tables.proofs.tables.Tables.begin_turn.Goals as goal

pub place_among-place-requires : goal.place_among-place-requires
place_among-place-requires c =
    let n = c.args.self.now in
    let some = some_ready c.args.code.now c.requires.keyboard n c.requires.standing in
    omega (arith, some, c.len.ensures, n.ready.ok.0)

pub unreachable-requires : goal.unreachable-requires
unreachable-requires c =
    let p = c.args.code.now in
    let n = c.args.self.now in
    let r = c.requires in
    let len : c.len.result ≡ length n.ready.items = omega (arith, c.len.ensures, n.ready.ok.0) in
    let place : ℕ = c.place_among-place.result in
    let own : place ≡ c.args.choice.which % length n.ready.items = c.place_among-place.ensures ∙ ap (λ (k : ℕ). c.args.choice.which % k) len in
    let within = place_within c.args.choice.which place (length n.ready.items) own (some_ready p r.keyboard n r.standing) in
    let number : ℕ = c.index-number.result.now in
    let at = read_at n.ready.items place number within c.index-number.ensures in
    has_body p number (number_small p r.keyboard n r.standing place number at) c.in_default.ensures.none

pub advance_task-requires-clause-small : goal.advance_task-requires-clause-small
advance_task-requires-clause-small c = body_small c.args.code.now c.index-number.result.now c.deref.result.now c.compiled.ensures (c.in-Some.ensures.some ∙ ap Some (sym c.deref.ensures))

pub advance_task-requires-clause-turn : goal.advance_task-requires-clause-turn
advance_task-requires-clause-turn c =
    let p = c.args.code.now in
    let n = c.args.self.now in
    let r = c.requires in
    let len : c.len.result ≡ length n.ready.items = omega (arith, c.len.ensures, n.ready.ok.0) in
    let place : ℕ = c.place_among-place.result in
    let own : place ≡ c.args.choice.which % length n.ready.items = c.place_among-place.ensures ∙ ap (λ (k : ℕ). c.args.choice.which % k) len in
    let within = place_within c.args.choice.which place (length n.ready.items) own (some_ready p r.keyboard n r.standing) in
    let number : ℕ = c.index-number.result.now in
    let at = read_at n.ready.items place number within c.index-number.ensures in
    has_turn p r.keyboard n r.standing c.compiled.ensures r.bytes place number c.deref.result.now at (c.in-Some.ensures.some ∙ ap Some (sym c.deref.ensures))

pub returns : goal.returns
returns c =
    let p = c.args.code.now in
    let n = c.args.self.now in
    let r = c.requires in
    let len : c.len.result ≡ length n.ready.items = omega (arith, c.len.ensures, n.ready.ok.0) in
    let place : ℕ = c.place_among-place.result in
    let own : place ≡ c.args.choice.which % length n.ready.items = c.place_among-place.ensures ∙ ap (λ (k : ℕ). c.args.choice.which % k) len in
    let within = place_within c.args.choice.which place (length n.ready.items) own (some_ready p r.keyboard n r.standing) in
    let number : ℕ = c.index-number.result.now in
    let at = read_at n.ready.items place number within c.index-number.ensures in
    let body = c.deref.result.now in
    let x = chosen p r.keyboard n r.standing place number at in
    let items = left_message c.advance_task.new.scratch in
    let e : EndedBy body n.tasks.items number x.task c.in_ok-end.end items c.advance_task.new.tasks.items = c.in_ok-end.ensures x.task x.there in
    record {
      selects = own;
      first = x.task;
      there = x.there;
      may = x.may;
      left = e.last;
      tasks = e.is;
      others = refl;
      ready = e.left;
      turn = record { body = body; before = x.task; at = at; has_body = c.in-Some.ensures.some ∙ ap Some (sym c.deref.ensures); there = x.there; stops = e.stops };
    }
