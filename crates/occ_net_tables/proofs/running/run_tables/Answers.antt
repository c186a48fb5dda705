use Rattle.std.proofs.Common.{◌≡◌, ◌+◌, ◌<◌, ◌-◌, ◌^◌, Some, None, length, take, sym, ap, ◌∙◌, subst, arith, rules, length-append}
use Rattle.std.specs.Prelude.{slice_get}
use Rattle.std.proofs.lemmas.Option.{slice_get_within}
use Rattle.occ_net_replay.specs.declared.choice.Choice.{Choice}
use Rattle.occ_net_replay.specs.Following.{or_limit}
use Rattle.occ_net_replay.specs.Replay.{Net, ending_of, ready_from}
use Rattle.occ_net_tables.specs.Holding.{Holds}
use Rattle.occ_net_tables.specs.Places.{placed_among}
use Rattle.occ_net_tables.specs.Running.{HasRun}
use Rattle.occ_choices.specs.Plans.{choices_of}
use Rattle.occ_net_tables.proofs.Placing.{turns_by_number}
use Rattle.occ_net_tables.proofs.Rerun.{starts, stands, next_run, run_is, begins_taken, all_taken, taken_short, some_ready_in}
use Rattle.occ_net_tables.proofs.running.run_tables.Goals as goal

pub loop-ending-init : goal.loop-ending-init
loop-ending-init c =
    record {
      run = subst (λ cs. HasRun c.args.code.now c.args.keyboard.now c.args.keep (take (length cs) (choices_of c.args.plan.now)) cs c.in_ok-tables.tables) (sym c.new-kept.ensures.items)
          (starts c.args.code.now c.args.keyboard.now c.args.keep c.in_ok-tables.tables c.in_ok-tables.ensures);
      open_end = λ h. absurd cc;
    }

pub ending_now-requires : goal.ending_now-requires
ending_now-requires c = c.loop-ending.invariant.open_end

pub placed_choice-placed-requires : goal.placed_choice-placed-requires
placed_choice-placed-requires c =
    let h = c.loop-ending.invariant.run in
    let going : ending_of c.args.code.now.errors h.net ≡ None = sym (c.ending_now.ensures c.args.keyboard.now h.net h.holds) ∙ c.in_default.is in
    let same = c.ready.ensures c.args.code.now c.args.keyboard.now h.net h.holds in
    omega (arith, some_ready_in c.args.code.now.errors h.net going, ap length same)

pub take_turn-requires : goal.take_turn-requires
take_turn-requires c =
    let h = c.loop-ending.invariant.run in
    let small : 1 + length c.loop-ending.kept.items < 2 ^ 64 = search rules in
    let fewer : 1 + length (take (length c.loop-ending.kept.items) (choices_of c.args.plan.now)) < 2 ^ 64 = omega (arith, small, taken_short (choices_of c.args.plan.now) (length c.loop-ending.kept.items)) in
    let going : ending_of c.args.code.now.errors h.net ≡ None = sym (c.ending_now.ensures c.args.keyboard.now h.net h.holds) ∙ c.in_default.is in
    stands c.args.code.now c.args.keyboard.now c.args.keep (take (length c.loop-ending.kept.items) (choices_of c.args.plan.now)) c.loop-ending.kept.items c.loop-ending.tables fewer h going

pub run_row-requires : goal.run_row-requires
run_row-requires c =
    let h = c.loop-ending.invariant.run in
    let p = c.args.code.now in
    let kb = c.args.keyboard.now in
    let going : ending_of p.errors h.net ≡ None = sym (c.ending_now.ensures kb h.net h.holds) ∙ c.in_default.is in
    let count : c.len.result ≡ length c.loop-ending.kept.items = c.len.ensures ∙ c.loop-ending.kept.ok.0 in
    let at = ap (slice_get (choices_of c.args.plan.now)) (sym count) ∙ sym c.at.ensures ∙ c.in-Some-at.is in
    let choice : Choice = c.in-Some-at.choice in
    let placed = λ (net : Net) (k : Holds p kb c.loop-ending.tables net). c.placed_choice-placed.ensures ∙ ap (λ ready. placed_among ready choice) (c.ready.ensures p kb net k) in
    let own = c.kept_choice.ensures (ready_from 0 h.net.tasks) (placed h.net h.holds) in
    let run = next_run p kb c.args.keep (choices_of c.args.plan.now) c.loop-ending.kept.items choice c.loop-ending.tables c.take_turn.new.self h going
    (λ net k. turns_by_number p kb choice c.placed_choice-placed.result net c.take_turn.new.self (placed net k) (c.in_ok-going.ensures.turn net k))
    at c.kept_choice.result own c.push.new.self.items c.in_ok-push.ensures.items in
    record {
      run = record {
        run = run;
        going = c.in_ok-going.ensures.going c.if-going.true;
        alone = ap length (run.holds.sound.ready_is ∙ ap (ready_from 0) (sym run.holds.tasks) ∙ sym (c.ready-then-going.ensures p kb run.net run.holds)) ∙ c.if-ready-eq1.true;
      };
    }

pub loop-ending-smaller : goal.loop-ending-smaller
loop-ending-smaller c =
    let at = sym c.at.ensures ∙ c.in-Some-at.is in
    let there : c.len.result < length (choices_of c.args.plan.now) = slice_get_within _ _ _ at in
    let count : c.len.result ≡ length c.loop-ending.kept.items = c.len.ensures ∙ c.loop-ending.kept.ok.0 in
    let grown : length c.push.new.self.items ≡ length c.loop-ending.kept.items + 1 = ap length c.in_ok-push.ensures.items ∙ length-append c.loop-ending.kept.items _ in
    let less : length (choices_of c.args.plan.now) - length c.push.new.self.items < length (choices_of c.args.plan.now) - length c.loop-ending.kept.items = omega (arith, there, count, grown) in
    less

pub loop-ending-preserved : goal.loop-ending-preserved
loop-ending-preserved c =
    let h = c.loop-ending.invariant.run in
    let p = c.args.code.now in
    let kb = c.args.keyboard.now in
    let going : ending_of p.errors h.net ≡ None = sym (c.ending_now.ensures kb h.net h.holds) ∙ c.in_default.is in
    let count : c.len.result ≡ length c.loop-ending.kept.items = c.len.ensures ∙ c.loop-ending.kept.ok.0 in
    let at = ap (slice_get (choices_of c.args.plan.now)) (sym count) ∙ sym c.at.ensures ∙ c.in-Some-at.is in
    let choice : Choice = c.in-Some-at.choice in
    let placed = λ (net : Net) (k : Holds p kb c.loop-ending.tables net). c.placed_choice-placed.ensures ∙ ap (λ ready. placed_among ready choice) (c.ready.ensures p kb net k) in
    let own = c.kept_choice.ensures (ready_from 0 h.net.tasks) (placed h.net h.holds) in
    let run = next_run p kb c.args.keep (choices_of c.args.plan.now) c.loop-ending.kept.items choice c.loop-ending.tables c.take_turn.new.self h going
    (λ net k. turns_by_number p kb choice c.placed_choice-placed.result net c.take_turn.new.self (placed net k) (c.in_ok-going.ensures.turn net k))
    at c.kept_choice.result own c.push.new.self.items c.in_ok-push.ensures.items in
    record { run = run; open_end = c.in_ok-going.ensures.going }

pub returns-in-Some : goal.returns-in-Some
returns-in-Some c =
    let h = c.loop-ending.invariant.run in
    let ends = sym (c.in-Some.is) ∙ c.ending_now.ensures c.args.keyboard.now h.net h.holds in
    run_is c.args.code.now c.args.keyboard.now (choices_of c.args.plan.now) c.args.keep (take (length c.loop-ending.kept.items) (choices_of c.args.plan.now)) _ h
    (begins_taken (choices_of c.args.plan.now) (length c.loop-ending.kept.items)) (ap or_limit ends) (λ q. let never : Some c.in-Some.ending ≡ None = ends ∙ q in absurd cc)

pub returns-in_default-at : goal.returns-in_default-at
returns-in_default-at c =
    let h = c.loop-ending.invariant.run in
    let count : c.len.result ≡ length c.loop-ending.kept.items = c.len.ensures ∙ c.loop-ending.kept.ok.0 in
    let at = ap (slice_get (choices_of c.args.plan.now)) (sym count) ∙ sym c.at.ensures ∙ c.in_default-at.is in
    let open_end : None ≡ ending_of c.args.code.now.errors h.net = sym c.in_default.is ∙ c.ending_now.ensures c.args.keyboard.now h.net h.holds in
    run_is c.args.code.now c.args.keyboard.now (choices_of c.args.plan.now) c.args.keep (take (length c.loop-ending.kept.items) (choices_of c.args.plan.now)) _ h
    (begins_taken (choices_of c.args.plan.now) (length c.loop-ending.kept.items)) (ap or_limit open_end) (λ q. all_taken (choices_of c.args.plan.now) (length c.loop-ending.kept.items) at)
