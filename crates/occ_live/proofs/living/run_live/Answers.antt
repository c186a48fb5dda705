use Rattle.std.proofs.Common.{◌≡◌, ◌∙◌, ◌+◌, ◌-◌, ◌<◌, ◌^◌, refl, sym, ap, subst, true, [], None, Some, length, rules, arith, length-append}
use Rattle.std.specs.Prelude.{slice_get}
use Rattle.std.proofs.lemmas.Option.{slice_get_within}
use mathlib.Core.Bool.{true≢false}
use Rattle.occ_choices.specs.Plans.{choices_of}
use Rattle.occ_net_replay.specs.Following.{or_limit}
use Rattle.occ_net_replay.specs.Replay.{ending_of, first_net}
use Rattle.occ_net_tables.specs.Holding.{trace_in}
use Rattle.occ_net_tables.proofs.Rerun.{all_taken}
use Rattle.occ_files.specs.Reading.{failures_of as reads_failed}
use Rattle.occ_live.specs.Living.{LiveRun, StandsLive, WroteSome, starts}
use Rattle.occ_live.proofs.Runs.{live_used}
use Rattle.occ_shown.specs.Counting.{writer_of}
use Rattle.occ_shown.proofs.Growth.{Appends-none}
use Rattle.occ_live.proofs.Shown.{if_err_both, if_err_map, if_ok_map, part_fails, same_count, told_on, up_to, write_told}
use Rattle.occ_live.proofs.Standing.{all_written, fails_live, has_come, is_live, is_marked, read_nothing, shows_nothing, starts_live}
use Rattle.occ_live.proofs.living.run_live.Goals as goal

pub loop-ending-init : goal.loop-ending-init
loop-ending-init g c =
    let list = choices_of c.args.plan.now in
    let none : c.new-kept.result.items ≡ [] = c.new-kept.ensures.items in
    record {
      stands = subst (λ cs. StandsLive c.args.code.now list c.args.bytes.now.items true cs c.in-Ok.tables) (sym none) (starts_live c.args.code.now list c.args.bytes.now.items c.in-Ok.tables c.requires.empty c.in-Ok.ensures);
      shown = shows_nothing g.W.Write.contents c.args.out.now c.new-screen.result.mark (trace_in c.in-Ok.tables) c.new-screen.ensures;
      read = read_nothing g.K.Read.remaining c.args.keys.now c.args.bytes.now.items c.requires.empty;
      end = λ o. absurd (true≢false o);
      unbroken = refl;
      failed = refl;
      grown = same_count (reads_failed c.args.keys.now);
      room = c.requires.keys;
    }

pub returns-in-Err-clause-fault : goal.returns-in-Err-clause-fault
returns-in-Err-clause-fault g c =
    let p = c.args.code.now in
    let list = choices_of c.args.plan.now in
    record {
      is_open = true;
      used = [];
      net = first_net p [];
      run = subst (λ l. LiveRun p list l true [] (first_net p [])) (sym c.requires.empty) starts;
      due = tt;
      wrote = ([], [], refl, Appends-none (g.W.Write.contents (writer_of c.args.out.now)));
    }

pub returns-in-Some-clause-lived : goal.returns-in-Some-clause-lived
returns-in-Some-clause-lived g c =
    let p = c.args.code.now in
    let list = choices_of c.args.plan.now in
    let read = c.loop-ending.bytes.items in
    let n = c.loop-ending.tables in
    let h = c.loop-ending.invariant in
    let ends : Some c.in-Some.ending ≡ ending_of p.errors h.stands.net = sym c.in-Some.is ∙ c.ending.ensures p read h.stands.net h.stands.holds ∙ ap (λ e. ending_of e h.stands.net) c.errors.ensures in
    if_ok_map _ _ c.come_to.result
    (λ lived x. is_live p list read c.loop-ending.is_open c.loop-ending.kept.items n h.stands g.W.Write.contents c.loop-ending.out c.loop-ending.out c.come_to.new.out c.loop-ending.screen.mark c.in-Some.ending lived x (ap or_limit ends) (λ q. let never : Some c.in-Some.ending ≡ None = ends ∙ q in absurd cc))
    c.come_to.ensures.lived

pub returns-in-Some-clause-shown : goal.returns-in-Some-clause-shown
returns-in-Some-clause-shown g c =
    let p = c.args.code.now in
    let list = choices_of c.args.plan.now in
    let read = c.loop-ending.bytes.items in
    let n = c.loop-ending.tables in
    let h = c.loop-ending.invariant in
    if_ok_map _ _ c.come_to.result
    (λ lived x. all_written p list read c.loop-ending.is_open c.loop-ending.kept.items n h.stands g.W.Write.contents c.args.out.now c.loop-ending.out c.come_to.new.out c.loop-ending.screen.mark c.in-Some.ending lived x h.shown)
    c.come_to.ensures.lived

pub returns-in-Some-clause-fault : goal.returns-in-Some-clause-fault
returns-in-Some-clause-fault g c =
    let p = c.args.code.now in
    let list = choices_of c.args.plan.now in
    let read = c.loop-ending.bytes.items in
    let n = c.loop-ending.tables in
    let h = c.loop-ending.invariant in
    if_err_both _ _ _ c.come_to.result
    (λ fault told part. fails_live p list read c.loop-ending.is_open c.loop-ending.kept.items n h.stands g.W.Write.contents c.args.out.now c.loop-ending.out c.come_to.new.out c.loop-ending.screen.mark fault told h.shown
    (part_fails g.W.Write.contents c.loop-ending.out c.come_to.new.out c.loop-ending.screen.mark (trace_in n) fault part))
    c.come_to.ensures.told c.come_to.ensures.part

pub returns-in_default-at-clause-lived : goal.returns-in_default-at-clause-lived
returns-in_default-at-clause-lived g c =
    let p = c.args.code.now in
    let list = choices_of c.args.plan.now in
    let read = c.loop-ending.bytes.items in
    let n = c.loop-ending.tables in
    let h = c.loop-ending.invariant in
    let ends : None ≡ ending_of p.errors h.stands.net = sym c.in_default.is ∙ c.ending.ensures p read h.stands.net h.stands.holds ∙ ap (λ e. ending_of e h.stands.net) c.errors.ensures in
    let count : c.len.result ≡ length c.loop-ending.kept.items = c.len.ensures ∙ c.loop-ending.kept.ok.0 in
    let at = ap (slice_get list) (sym count) ∙ sym c.at.ensures ∙ c.in_default-at.is in
    if_ok_map _ _ c.come_to-in_default-at.result
    (λ lived x. is_live p list read c.loop-ending.is_open c.loop-ending.kept.items n h.stands g.W.Write.contents c.loop-ending.out c.loop-ending.out c.come_to-in_default-at.new.out c.loop-ending.screen.mark _ lived x (ap or_limit ends) (λ q. live_used p list read c.loop-ending.is_open c.loop-ending.kept.items h.stands.net h.stands.run ∙ all_taken list (length c.loop-ending.kept.items) at))
    c.come_to-in_default-at.ensures.lived

pub returns-in_default-at-clause-shown : goal.returns-in_default-at-clause-shown
returns-in_default-at-clause-shown g c =
    let p = c.args.code.now in
    let list = choices_of c.args.plan.now in
    let read = c.loop-ending.bytes.items in
    let n = c.loop-ending.tables in
    let h = c.loop-ending.invariant in
    if_ok_map _ _ c.come_to-in_default-at.result
    (λ lived x. all_written p list read c.loop-ending.is_open c.loop-ending.kept.items n h.stands g.W.Write.contents c.args.out.now c.loop-ending.out c.come_to-in_default-at.new.out c.loop-ending.screen.mark _ lived x h.shown)
    c.come_to-in_default-at.ensures.lived

pub returns-in_default-at-clause-fault : goal.returns-in_default-at-clause-fault
returns-in_default-at-clause-fault g c =
    let p = c.args.code.now in
    let list = choices_of c.args.plan.now in
    let read = c.loop-ending.bytes.items in
    let n = c.loop-ending.tables in
    let h = c.loop-ending.invariant in
    if_err_both _ _ _ c.come_to-in_default-at.result
    (λ fault told part. fails_live p list read c.loop-ending.is_open c.loop-ending.kept.items n h.stands g.W.Write.contents c.args.out.now c.loop-ending.out c.come_to-in_default-at.new.out c.loop-ending.screen.mark fault told h.shown
    (part_fails g.W.Write.contents c.loop-ending.out c.come_to-in_default-at.new.out c.loop-ending.screen.mark (trace_in n) fault part))
    c.come_to-in_default-at.ensures.told c.come_to-in_default-at.ensures.part

pub live_turn-turned-requires-clause-stands : goal.live_turn-turned-requires-clause-stands
live_turn-turned-requires-clause-stands g c =
    let p = c.args.code.now in
    let list = choices_of c.args.plan.now in
    let read = c.loop-ending.bytes.items in
    let n = c.loop-ending.tables in
    let h = c.loop-ending.invariant in
    let ends : None ≡ ending_of p.errors h.stands.net = sym c.in_default.is ∙ c.ending.ensures p read h.stands.net h.stands.holds ∙ ap (λ e. ending_of e h.stands.net) c.errors.ensures in
    let count : c.len.result ≡ length c.loop-ending.kept.items = c.len.ensures ∙ c.loop-ending.kept.ok.0 in
    let at = ap (slice_get list) (sym count) ∙ sym c.at.ensures ∙ c.in-Some-at.is in
    let few : 1 + length c.loop-ending.kept.items < 2 ^ 64 = search rules in
    record { stands = h.stands; few = few; next = at; going = sym ends }

pub returns-in-Err-turned-clause-fault : goal.returns-in-Err-turned-clause-fault
returns-in-Err-turned-clause-fault g c =
    let p = c.args.code.now in
    let list = choices_of c.args.plan.now in
    let read = c.loop-ending.bytes.items in
    let n = c.loop-ending.tables in
    let h = c.loop-ending.invariant in
    let x = c.in-Err-turned.ensures.part in
    record {
      is_open = x.is_open;
      used = x.used;
      net = x.net;
      run = x.run;
      due = x.due;
      wrote = subst (λ t. WroteSome g.W.Write.contents c.args.out.now c.live_turn-turned.new.out t c.in-Err-turned.fault) (sym x.trace) (x.part c.args.out.now h.shown);
    }

pub show_at_times-requires-clause-marked : goal.show_at_times-requires-clause-marked
show_at_times-requires-clause-marked g c =
    let p = c.args.code.now in
    let list = choices_of c.args.plan.now in
    let read = c.loop-ending.bytes.items in
    let n = c.loop-ending.tables in
    let h = c.loop-ending.invariant in
    is_marked g.W.Write.contents c.args.out.now c.live_turn-turned.new.out c.live_turn-turned.new.screen.mark (trace_in c.live_turn-turned.new.tables) (c.in-Ok-turned.ensures.shown c.args.out.now h.shown)

pub loop-ending-smaller : goal.loop-ending-smaller
loop-ending-smaller g c =
    let p = c.args.code.now in
    let list = choices_of c.args.plan.now in
    let read = c.loop-ending.bytes.items in
    let n = c.loop-ending.tables in
    let h = c.loop-ending.invariant in
    let count : c.len.result ≡ length c.loop-ending.kept.items = c.len.ensures ∙ c.loop-ending.kept.ok.0 in
    let at = ap (slice_get list) (sym count) ∙ sym c.at.ensures ∙ c.in-Some-at.is in
    let there : length c.loop-ending.kept.items < length list = slice_get_within _ _ _ at in
    let grown : length c.live_turn-turned.new.kept.items ≡ length c.loop-ending.kept.items + 1 = ap length c.in-Ok-turned.ensures.kept ∙ length-append c.loop-ending.kept.items _ in
    let less : length list - length c.live_turn-turned.new.kept.items < length list - length c.loop-ending.kept.items = omega (arith, there, grown) in
    less

pub loop-ending-preserved : goal.loop-ending-preserved
loop-ending-preserved g c =
    let p = c.args.code.now in
    let list = choices_of c.args.plan.now in
    let read = c.loop-ending.bytes.items in
    let n = c.loop-ending.tables in
    let h = c.loop-ending.invariant in
    let t = c.in-Ok-turned.ensures in
    record {
      stands = t.stands;
      shown = c.in-Ok-show_at_times.ensures.shown c.args.out.now (t.shown c.args.out.now h.shown);
      read = t.read c.args.keys.now h.read;
      end = t.end h.end;
      unbroken = t.unbroken ∙ h.unbroken;
      failed = c.in-Ok-show_at_times.ensures.none_failed ∙ t.none_failed ∙ h.failed;
      grown = up_to (reads_failed c.args.keys.now) (reads_failed c.loop-ending.keys) (reads_failed c.live_turn-turned.new.keys) h.grown t.grown;
      room = t.room_left;
    }

pub returns-in-Err-show_at_times-clause-fault : goal.returns-in-Err-show_at_times-clause-fault
returns-in-Err-show_at_times-clause-fault g c =
    let p = c.args.code.now in
    let list = choices_of c.args.plan.now in
    let read = c.loop-ending.bytes.items in
    let n = c.loop-ending.tables in
    let h = c.loop-ending.invariant in
    let t = c.in-Ok-turned.ensures in
    let now = trace_in c.live_turn-turned.new.tables in
    let told = c.in-Err-show_at_times.ensures.told in
    fails_live p list c.live_turn-turned.new.bytes.items c.in-Ok-turned.still_open c.live_turn-turned.new.kept.items c.live_turn-turned.new.tables (t.stands) g.W.Write.contents c.args.out.now c.live_turn-turned.new.out c.show_at_times.new.out
    c.live_turn-turned.new.screen.mark c.in-Err-show_at_times.unshown told (t.shown c.args.out.now h.shown)
    (part_fails g.W.Write.contents c.live_turn-turned.new.out c.show_at_times.new.out c.live_turn-turned.new.screen.mark now c.in-Err-show_at_times.unshown c.in-Err-show_at_times.ensures.part)

pub returns-in-Some-clause-told : goal.returns-in-Some-clause-told
returns-in-Some-clause-told g c =
    if_err_map _ _ c.come_to.result
    (λ fault t. write_told c.args.keys.now c.loop-ending.keys c.args.out.now c.loop-ending.out c.come_to.new.out fault c.loop-ending.invariant.failed t)
    c.come_to.ensures.told

pub returns-in_default-at-clause-told : goal.returns-in_default-at-clause-told
returns-in_default-at-clause-told g c =
    if_err_map _ _ c.come_to-in_default-at.result
    (λ fault t. write_told c.args.keys.now c.loop-ending.keys c.args.out.now c.loop-ending.out c.come_to-in_default-at.new.out fault c.loop-ending.invariant.failed t)
    c.come_to-in_default-at.ensures.told

pub returns-in-Err-turned-clause-told : goal.returns-in-Err-turned-clause-told
returns-in-Err-turned-clause-told g c =
    let h = c.loop-ending.invariant in
    told_on c.args.keys.now c.loop-ending.keys c.live_turn-turned.new.keys c.args.out.now c.loop-ending.out c.live_turn-turned.new.out c.in-Err-turned.fault h.grown h.failed c.in-Err-turned.ensures.told

pub returns-in-Err-show_at_times-clause-told : goal.returns-in-Err-show_at_times-clause-told
returns-in-Err-show_at_times-clause-told g c =
    write_told c.args.keys.now c.live_turn-turned.new.keys c.args.out.now c.live_turn-turned.new.out c.show_at_times.new.out c.in-Err-show_at_times.unshown (c.in-Ok-turned.ensures.none_failed ∙ c.loop-ending.invariant.failed) c.in-Err-show_at_times.ensures.told

pub come_to-requires-clause-stands : goal.come_to-requires-clause-stands
come_to-requires-clause-stands g c =
    let kept = c.loop-ending.kept.items in
    let few : length kept < 2 ^ 64 = search rules in
    has_come c.args.code.now (choices_of c.args.plan.now) c.loop-ending.bytes.items c.loop-ending.is_open kept c.loop-ending.tables c.loop-ending.invariant.stands c.deref.result.now kept c.deref.ensures.value refl few

pub come_to-requires-in_default-at-clause-stands : goal.come_to-requires-in_default-at-clause-stands
come_to-requires-in_default-at-clause-stands g c =
    let kept = c.loop-ending.kept.items in
    let few : length kept < 2 ^ 64 = search rules in
    has_come c.args.code.now (choices_of c.args.plan.now) c.loop-ending.bytes.items c.loop-ending.is_open kept c.loop-ending.tables c.loop-ending.invariant.stands c.deref-in_default-at.result.now kept c.deref-in_default-at.ensures.value refl few

pub show_at_times-requires-clause-stands : goal.show_at_times-requires-clause-stands
show_at_times-requires-clause-stands g c =
    let t = c.in-Ok-turned.ensures in
    let read = c.deref-in-loop-ending in
    let kept = c.deref-in-loop-ending-2 in
    let few : length kept.result.now < 2 ^ 64 = search rules in
    has_come c.args.code.now (choices_of c.args.plan.now) c.live_turn-turned.new.bytes.items c.in-Ok-turned.still_open c.live_turn-turned.new.kept.items c.live_turn-turned.new.tables t.stands read.result.now kept.result.now read.ensures.value kept.ensures.value few
