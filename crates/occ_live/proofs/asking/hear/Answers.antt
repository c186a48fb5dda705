use Rattle.std.proofs.Common.{◌≡◌, ◌∙◌, ◌<◌, ◌^◌, refl, sym, ap, subst, length, arith}
use Rattle.occ_live.specs.Living.{HasHeard, Shows, ShowsPart}
use Rattle.occ_net_tables.specs.Halves.{LooksPastBytes, with_used}
use Rattle.occ_net_tables.specs.Holding.{trace_in}
use Rattle.occ_live.proofs.Shown.{part_fails, read_fails, read_told, shown_now, write_told}
use Rattle.occ_live.proofs.Standing.{are_bytes, fails_due, heard_by, never_due, screen_has_bytes, trace_is}
use Rattle.occ_live.proofs.Runs.{live_replays}
use Rattle.occ_live.proofs.asking.hear.Goals as goal

pub show-requires-clause-screen : goal.show-requires-clause-screen
show-requires-clause-screen g c =
    let p = c.args.code.now in
    let read = c.args.keyboard.now.items in
    let b = c.requires.begun in
    let x = b.4 in
    let s = x.from.stands in
    let few : length b.1 < 2 ^ 64 = (let more = x.from.few in omega (arith, more)) in
    screen_has_bytes p read b.1 s.net c.trace_so_far.result.now c.compiled.ensures s.bytes few (live_replays p b.0 read c.args.is_open b.1 s.net s.run)
    (trace_is p b.0 read c.args.is_open b.1 b.2 c.args.begun b.3 c.args.tables.now x ∙ sym c.trace_so_far.ensures)

pub returns-in-Err-clause-part : goal.returns-in-Err-clause-part
returns-in-Err-clause-part g c =
    part_fails g.W.Write.contents c.args.out.now c.show.new.out c.args.screen.now.mark (trace_in c.args.tables.now) c.in-Err.fault
    (subst (λ t. ShowsPart g.W.Write.contents c.args.out.now c.args.screen.now.mark t c.show.new.out c.in-Err.fault) c.trace_so_far.ensures c.in-Err.ensures.part)

pub returns-in-Err-read_more-clause-part : goal.returns-in-Err-read_more-clause-part
returns-in-Err-read_more-clause-part g c =
    read_fails g.W.Write.contents c.args.out.now c.show.new.out c.args.screen.now.mark c.show.new.self.mark (trace_in c.args.tables.now) c.in-Err-read_more.unread
    (subst (λ t. Shows g.W.Write.contents c.args.out.now c.args.screen.now.mark t c.show.new.out c.show.new.self.mark) c.trace_so_far.ensures c.in-Ok.ensures.shown)

pub returns-in-Ok-read_more-clause-heard : goal.returns-in-Ok-read_more-clause-heard
returns-in-Ok-read_more-clause-heard g c = λ list kept choice items same x.
    let p = c.args.code.now in
    let read = c.args.keyboard.now.items in
    let n = c.args.tables.now in
    let r = c.in-Ok-read_more.ensures in
    let asks = subst (λ k. LooksPastBytes read n c.args.begun k) (sym same) (subst (λ l. LooksPastBytes l n c.args.begun c.args.pick) c.deref.ensures.value (c.asks.ensures.past c.if-not-asks.false)) in
    let longer = c.read_more.new.keyboard.items in
    let known : c.len-known.result ≡ length read = c.len-known.ensures ∙ c.args.keyboard.now.ok.0 in
    let there : c.reach.new.self ≡ with_used n (length read) = c.reach.ensures ∙ ap (with_used n) known in
    subst (λ z. HasHeard p list longer c.in-Ok-read_more.some kept choice c.args.begun items z) (sym there)
    (heard_by p list read c.args.is_open kept choice c.args.begun items n x c.if-not-is_open.false asks c.in-Ok-read_more.some longer (are_bytes longer c.type_inv.keyboard) r.read.more r.read.added r.some r.none)

pub returns-in-Ok-read_more-clause-shown : goal.returns-in-Ok-read_more-clause-shown
returns-in-Ok-read_more-clause-shown g c = λ first h.
    shown_now g.W.Write.contents c.args.out.now c.show.new.out c.args.screen.now.mark c.show.new.self.mark (trace_in c.args.tables.now)
    (subst (λ t. Shows g.W.Write.contents c.args.out.now c.args.screen.now.mark t c.show.new.out c.show.new.self.mark) c.trace_so_far.ensures c.in-Ok.ensures.shown) first h

pub returns-in-Err-clause-told : goal.returns-in-Err-clause-told
returns-in-Err-clause-told g c = write_told c.args.keys.now c.args.keys.now c.args.out.now c.args.out.now c.show.new.out c.in-Err.fault refl c.in-Err.ensures.told

pub returns-in-Err-read_more-clause-told : goal.returns-in-Err-read_more-clause-told
returns-in-Err-read_more-clause-told g c = read_told c.args.keys.now c.read_more.new.keys c.args.out.now c.show.new.out c.in-Err-read_more.unread c.in-Err-read_more.ensures.told

pub returns-in-Err-clause-due : goal.returns-in-Err-clause-due
returns-in-Err-clause-due g c = λ list kept choice items same x. never_due c.args.out.now c.show.new.out c.args.code.now list c.args.is_open kept x.from.stands.net c.in-Err.fault c.in-Err.ensures.told

pub returns-in-Err-read_more-clause-due : goal.returns-in-Err-read_more-clause-due
returns-in-Err-read_more-clause-due g c = λ list kept choice items same x.
    let read = c.args.keyboard.now.items in
    let n = c.args.tables.now in
    let asks = subst (λ k. LooksPastBytes read n c.args.begun k) (sym same) (subst (λ l. LooksPastBytes l n c.args.begun c.args.pick) c.deref.ensures.value (c.asks.ensures.past c.if-not-asks.false)) in
    fails_due c.args.code.now list read c.args.is_open kept choice c.args.begun items n x c.if-not-is_open.false asks c.in-Err-read_more.unread
