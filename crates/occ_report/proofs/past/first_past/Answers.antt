use Rattle.std.proofs.Common.{◌∙◌, ◌<◌, ◌^◌, ap, arith, length, rules, sym}
use Rattle.occ_net_replay.specs.Replay.{ending_of}
use Rattle.occ_report.proofs.PastReady.{all_named, names_first, names_more, names_stand}
use Rattle.occ_report.proofs.Turns.{none_left, none_of}
use Rattle.occ_report.proofs.past.first_past.Goals as goal

pub loop-rest-init : goal.loop-rest-init
loop-rest-init c = record { counted = omega arith; run = names_first c.args.code.now c.args.keyboard.now c.args.choices.now c.in_ok-tables.tables c.in_ok-tables.ensures }

pub returns-in_default : goal.returns-in_default
returns-in_default c =
    let h = c.loop-rest.invariant.run in
    all_named c.args.code.now c.args.keyboard.now c.loop-rest.turns c.loop-rest.rest.now c.args.choices.now c.loop-rest.tables h (λ e. none_left c.loop-rest.rest.now c.in_default.ensures.cases)

pub take_turn-requires : goal.take_turn-requires
take_turn-requires c =
    let h = c.loop-rest.invariant.run in
    let small : length c.args.choices.now < 2 ^ 64 = search rules in
    let going = ap (λ e. ending_of e h.net) (sym c.errors.ensures) ∙ sym (c.ending.ensures c.args.code.now c.args.keyboard.now h.net h.holds) ∙ none_of c.ending.result (sym c.is_some.ensures ∙ c.if-is_some.false) in
    names_stand c.args.code.now c.args.keyboard.now c.loop-rest.turns c.loop-rest.rest.now c.args.choices.now c.loop-rest.tables h going (omega (arith, small, c.loop-rest.invariant.counted, ap length c.in-Some.ensures.cases.0))

pub loop-rest-preserved : goal.loop-rest-preserved
loop-rest-preserved c =
    let h = c.loop-rest.invariant.run in
    let first = c.in-Some.ensures.cases.0 in
    let going = ap (λ e. ending_of e h.net) (sym c.errors.ensures) ∙ sym (c.ending.ensures c.args.code.now c.args.keyboard.now h.net h.holds) ∙ none_of c.ending.result (sym c.is_some.ensures ∙ c.if-is_some.false) in
    let few : c.in-Some.choice.now.which < length c.ready.result.now = omega (arith, c.if-choice-ready.false) in
    record {
      counted = omega (arith, c.loop-rest.invariant.counted, ap length first);
      run =
          names_more c.args.code.now c.args.keyboard.now c.loop-rest.turns c.loop-rest.rest.now c.in-Some.others.now c.args.choices.now c.in-Some.choice.now c.loop-rest.tables c.take_turn.new.self c.ready.result.now h going first
          (c.ready.ensures c.args.code.now c.args.keyboard.now h.net h.holds) few c.in_ok-take_turn.ensures.turn;
    }
