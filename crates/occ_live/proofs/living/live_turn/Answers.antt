use Rattle.std.proofs.Common.{◌≡◌, ◌∙◌, refl, sym, ap, subst, ◌++◌}
use Rattle.occ_choices.specs.Plans.{choices_of}
use Rattle.occ_proc.specs.Turns.{left_message}
use Rattle.occ_net_tables.specs.Holding.{trace_in}
use Rattle.occ_net_tables.specs.Rows.{HasTakenTurn, SettlesEnd}
use Rattle.occ_live.specs.Living.{FailsBehind, HasBegun, HasShown, LiveRun}
use Rattle.occ_live.proofs.Runs.{live_replays}
use Rattle.occ_live.proofs.Shown.{memory_after, memory_behind, shown_longer}
use Rattle.occ_live.proofs.Standing.{stands_on, taken, trace_is, trace_on}
use Rattle.occ_live.proofs.living.live_turn.Goals as goal

pub begin_turn-requires : goal.begin_turn-requires
begin_turn-requires g c =
    let p = c.args.code.now in
    let kb = c.args.bytes.now.items in
    let list = choices_of c.args.plan.now in
    let m = c.requires.stands in
    let s = m.stands in
    let kept = c.args.kept.now.items in
    record { keyboard = kb; bytes = s.bytes; standing = record { choices = kept; few = m.few; net = s.net; replays = live_replays p list kb c.args.is_open kept s.net s.run; open_end = m.going; holds = s.holds } }

pub returns-in-Err-clause-part : goal.returns-in-Err-clause-part
returns-in-Err-clause-part g c =
    let list = choices_of c.args.plan.now in
    let m = c.requires.stands in
    let s = m.stands in
    record { is_open = c.args.is_open; used = c.args.kept.now.items; net = s.net; run = s.run; due = tt; trace = s.holds.trace; part = memory_behind g.W.Write.contents c.args.out.now c.args.screen.now.mark (trace_in c.args.tables.now) }

pub hear-heard-requires-clause-begun : goal.hear-heard-requires-clause-begun
hear-heard-requires-clause-begun g c = (choices_of c.args.plan.now, c.args.kept.now.items, c.args.choice, left_message c.begin_turn.new.scratch, record { old = c.args.tables.now; from = c.requires.stands; began = c.in-Ok.ensures })

pub returns-in-Err-heard-clause-part : goal.returns-in-Err-heard-clause-part
returns-in-Err-heard-clause-part g c =
    let list = choices_of c.args.plan.now in
    let m = c.requires.stands in
    let p = c.args.code.now in
    let kept = c.args.kept.now.items in
    let choice = c.args.choice in
    let begun = c.in-Ok.begun in
    let items = left_message c.begin_turn.new.scratch in
    let x : HasBegun p list c.args.bytes.now.items c.args.is_open kept choice begun items c.begin_turn.new.self = record { old = c.args.tables.now; from = m; began = c.in-Ok.ensures } in
    let s = m.stands in
    let was : trace_in c.begin_turn.new.self ≡ trace_in c.args.tables.now = ap (λ z. trace_in z) c.in-Ok.ensures.others in
    record {
      is_open = c.args.is_open;
      used = kept;
      net = s.net;
      run = subst (λ l. LiveRun p list l c.args.is_open kept s.net) (sym c.in-Err-heard.ensures.kept) s.run;
      due = c.in-Err-heard.ensures.due list kept choice items refl x;
      trace = s.holds.trace;
      part = subst (λ t. FailsBehind g.W.Write.contents c.args.out.now c.args.screen.now.mark t c.hear-heard.new.out c.in-Err-heard.fault) was c.in-Err-heard.ensures.part;
    }

pub end_turn-requires : goal.end_turn-requires
end_turn-requires g c =
    let p = c.args.code.now in
    let kept = c.args.kept.now.items in
    let choice = c.args.choice in
    let begun = c.in-Ok.begun in
    let items = left_message c.begin_turn.new.scratch in
    let x : HasBegun p (choices_of c.args.plan.now) c.args.bytes.now.items c.args.is_open kept choice begun items c.begin_turn.new.self = record { old = c.args.tables.now; from = c.requires.stands; began = c.in-Ok.ensures } in
    let h = c.in-Ok-heard.ensures.heard (choices_of c.args.plan.now) kept choice items refl x in
    subst (λ l. HasTakenTurn p l c.hear-heard.new.tables begun.place begun.number begun.end items) (sym c.deref.ensures.value)
    (taken p (choices_of c.args.plan.now) c.hear-heard.new.keyboard.items c.in-Ok-heard.still_open kept choice begun items c.hear-heard.new.tables h)

pub returns-in-Err-end_turn-clause-part : goal.returns-in-Err-end_turn-clause-part
returns-in-Err-end_turn-clause-part g c =
    let list = choices_of c.args.plan.now in
    let m = c.requires.stands in
    let p = c.args.code.now in
    let kept = c.args.kept.now.items in
    let choice = c.args.choice in
    let begun = c.in-Ok.begun in
    let items = left_message c.begin_turn.new.scratch in
    let x : HasBegun p list c.args.bytes.now.items c.args.is_open kept choice begun items c.begin_turn.new.self = record { old = c.args.tables.now; from = m; began = c.in-Ok.ensures } in
    let h = c.in-Ok-heard.ensures.heard list kept choice items refl x in
    let s = h.begun_so.from.stands in
    let was : trace_in c.begin_turn.new.self ≡ trace_in c.args.tables.now = ap (λ z. trace_in z) c.in-Ok.ensures.others in
    record {
      is_open = c.in-Ok-heard.still_open;
      used = kept;
      net = s.net;
      run = s.run;
      due = tt;
      trace = trace_is p list c.hear-heard.new.keyboard.items c.in-Ok-heard.still_open kept choice begun items c.hear-heard.new.tables h.begun_so ∙ c.hear-heard.ensures.trace ∙ was;
      part = memory_after g.W.Write.contents c.args.out.now c.hear-heard.new.out c.args.screen.now.mark c.hear-heard.new.screen.mark (trace_in c.begin_turn.new.self) (trace_in c.args.tables.now) was c.in-Ok-heard.ensures.shown;
    }

pub returns-in-Ok-keep-clause-stands : goal.returns-in-Ok-keep-clause-stands
returns-in-Ok-keep-clause-stands g c =
    let list = choices_of c.args.plan.now in
    let m = c.requires.stands in
    let p = c.args.code.now in
    let kept = c.args.kept.now.items in
    let choice = c.args.choice in
    let begun = c.in-Ok.begun in
    let items = left_message c.begin_turn.new.scratch in
    let x : HasBegun p list c.args.bytes.now.items c.args.is_open kept choice begun items c.begin_turn.new.self = record { old = c.args.tables.now; from = m; began = c.in-Ok.ensures } in
    let h = c.in-Ok-heard.ensures.heard list kept choice items refl x in
    let settles = subst (λ l. SettlesEnd p l begun.place begun.number begun.end items choice.pick c.hear-heard.new.tables c.end_turn.new.self) c.deref.ensures.value c.in-Ok-end_turn.ensures.turn in
    stands_on p list c.hear-heard.new.keyboard.items c.in-Ok-heard.still_open kept choice begun items c.hear-heard.new.tables h c.end_turn.new.self settles c.keep.new.kept.items c.in-Ok-keep.ensures

pub returns-in-Ok-keep-clause-shown : goal.returns-in-Ok-keep-clause-shown
returns-in-Ok-keep-clause-shown g c = λ first shown.
    let p = c.args.code.now in
    let kept = c.args.kept.now.items in
    let choice = c.args.choice in
    let begun = c.in-Ok.begun in
    let items = left_message c.begin_turn.new.scratch in
    let x : HasBegun p (choices_of c.args.plan.now) c.args.bytes.now.items c.args.is_open kept choice begun items c.begin_turn.new.self = record { old = c.args.tables.now; from = c.requires.stands; began = c.in-Ok.ensures } in
    let h = c.in-Ok-heard.ensures.heard (choices_of c.args.plan.now) kept choice items refl x in
    let settles = subst (λ l. SettlesEnd p l begun.place begun.number begun.end items choice.pick c.hear-heard.new.tables c.end_turn.new.self) c.deref.ensures.value c.in-Ok-end_turn.ensures.turn in
    let more = trace_on p (choices_of c.args.plan.now) c.hear-heard.new.keyboard.items c.in-Ok-heard.still_open kept choice begun items c.hear-heard.new.tables h c.end_turn.new.self settles in
    let was : trace_in c.begin_turn.new.self ≡ trace_in c.args.tables.now = ap (λ z. trace_in z) c.in-Ok.ensures.others in
    let here = c.in-Ok-heard.ensures.shown first (subst (λ t. HasShown g.W.Write.contents first c.args.out.now c.args.screen.now.mark t) (sym was) shown) in
    shown_longer g.W.Write.contents first c.hear-heard.new.out c.hear-heard.new.screen.mark (trace_in c.begin_turn.new.self) more.0 (trace_in c.end_turn.new.self) (more.1 ∙ ap (λ l. l ++ more.0) c.hear-heard.ensures.trace) here

pub returns-in-Err-keep-clause-part : goal.returns-in-Err-keep-clause-part
returns-in-Err-keep-clause-part g c =
    let list = choices_of c.args.plan.now in
    let m = c.requires.stands in
    let p = c.args.code.now in
    let kept = c.args.kept.now.items in
    let choice = c.args.choice in
    let begun = c.in-Ok.begun in
    let items = left_message c.begin_turn.new.scratch in
    let x : HasBegun p list c.args.bytes.now.items c.args.is_open kept choice begun items c.begin_turn.new.self = record { old = c.args.tables.now; from = m; began = c.in-Ok.ensures } in
    let h = c.in-Ok-heard.ensures.heard list kept choice items refl x in
    let s = h.begun_so.from.stands in
    let was : trace_in c.begin_turn.new.self ≡ trace_in c.args.tables.now = ap (λ z. trace_in z) c.in-Ok.ensures.others in
    record {
      is_open = c.in-Ok-heard.still_open;
      used = kept;
      net = s.net;
      run = s.run;
      due = tt;
      trace = trace_is p list c.hear-heard.new.keyboard.items c.in-Ok-heard.still_open kept choice begun items c.hear-heard.new.tables h.begun_so ∙ c.hear-heard.ensures.trace ∙ was;
      part = memory_after g.W.Write.contents c.args.out.now c.hear-heard.new.out c.args.screen.now.mark c.hear-heard.new.screen.mark (trace_in c.begin_turn.new.self) (trace_in c.args.tables.now) was c.in-Ok-heard.ensures.shown;
    }
