use Rattle.std.proofs.Common.{◌≡◌, ◌∙◌, ◌^◌, ◌<◌, ℕ, length, subst, sym, ap, rules, arith}
use Rattle.occ_choices.specs.Plans.{choices_of}
use Rattle.occ_net_tables.specs.Rows.{RowTurnsTo, StandsAlone}
use Rattle.occ_net_tables.proofs.Rowed.{kept_length, row_run, stands_alone}
use Rattle.occ_net_tables.proofs.running.run_row.Goals as goal

pub take_turns-requires-clause-alone : goal.take_turns-requires-clause-alone
take_turns-requires-clause-alone c =
    let kept = c.args.kept.now.items in
    let list = choices_of c.args.plan.now in
    let from : length kept ≡ c.len-from.result = sym (c.len-from.ensures ∙ c.args.kept.now.ok.0) in
    let small : c.len-all.result < 2 ^ 64 = search rules in
    let more : length kept < length list = omega (arith, from, c.if-from-all.false, c.len-all.ensures) in
    let fits : length list < 2 ^ 64 = omega (arith, small, c.len-all.ensures) in
    subst (StandsAlone c.args.code.now c.args.keyboard.now c.args.tables.now) from (stands_alone c.args.code.now c.args.keyboard.now c.args.keep list kept c.args.tables.now c.requires.run more fits)

pub returns-clause-run : goal.returns-clause-run
returns-clause-run c =
    let p = c.args.code.now in
    let kb = c.args.keyboard.now in
    let kept = c.args.kept.now.items in
    let list = choices_of c.args.plan.now in
    let n = c.args.tables.now in
    let h = c.requires.run.run in
    let from : c.len-from.result ≡ length kept = c.len-from.ensures ∙ c.args.kept.now.ok.0 in
    let row = c.in_ok-count.ensures.row h.net h.holds in
    let turns = subst (λ (k : ℕ). RowTurnsTo p kb n.ready.items list k h.net c.in_ok-count.count c.take_turns.new.self) from row in
    row_run p kb c.args.keep list kept n.ready.items n c.take_turns.new.self h c.in_ok-count.count turns c.keep_row.new.kept.items (c.in_ok-keep_row.ensures n.ready.items c.requires.run.alone)

pub returns-clause-more : goal.returns-clause-more
returns-clause-more c =
    let kept = c.args.kept.now.items in
    let list = choices_of c.args.plan.now in
    let n = c.args.tables.now in
    let long = ap length (c.in_ok-keep_row.ensures n.ready.items c.requires.run.alone) ∙ kept_length c.args.keep n.ready.items list kept (length kept) c.in_ok-count.count in
    let some = c.in_ok-count.ensures.some.0 in
    omega (arith, long, some)
