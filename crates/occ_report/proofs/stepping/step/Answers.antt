use Rattle.std.proofs.Common.{◌∙◌, ◌-◌, ◌+◌, ◌++◌, ℕ, ap, length}
use Rattle.occ_machine.specs.declared.task.Task.{Task}
use Rattle.occ_shown.specs.Answers.{names_of}
use Rattle.occ_report.specs.Steps.{turn_head, turn_tail}
use Rattle.occ_term.specs.Runs.{entries}
use Rattle.occ_report.proofs.Turns.{news_are, news_text, news_within, steps_to}
use Rattle.occ_report.proofs.stepping.step.Goals as goal

pub write_tail-requires : goal.write_tail-requires
write_tail-requires c =
    let p = c.args.code.now in
    let keys = c.args.keyboard.now in
    let stands = c.requires in
    let x = c.in_ok-take_turn.ensures.turn stands.net stands.holds in
    let fresh =
    news_are p c.args.choice stands.net x.next c.trace.result.now c.trace-trace.result.now c.copy_behind.new.news x.turn (c.trace.ensures p keys stands.net stands.holds) (c.trace-trace.ensures p keys x.next x.holds) c.mark-mark.result c.mark-mark.ensures
    c.in_ok-copy_behind.ensures in
    record { within = news_within c.trace.result.now c.trace-trace.result.now c.copy_behind.new.news c.len-made.result fresh c.len-made.ensures.len }

pub next_turn-requires : goal.next_turn-requires
next_turn-requires c = c.requires

pub returns : goal.returns
returns c = λ net h.
    let p = c.args.code.now in
    let keys = c.args.keyboard.now in
    let taken : ℕ = c.in_ok-taken.taken in
    let left : Task = c.in_ok-taken.after in
    let x = c.in_ok-take_turn.ensures.turn net h in
    let was = c.trace.ensures p keys net h in
    let now = c.trace-trace.ensures p keys x.next x.holds in
    let fresh = news_are p c.args.choice net x.next c.trace.result.now c.trace-trace.result.now c.copy_behind.new.news x.turn was now c.mark-mark.result c.mark-mark.ensures c.in_ok-copy_behind.ensures in
    let ready = c.ready.ensures p keys net h in
    let next = c.in_ok-taken.ensures net h in
    let first = c.in_ok-write_head.ensures ∙ ap (λ ns. c.args.out.now.items ++ turn_head c.args.turn ns taken c.args.choice.pick) ready in
    let made = news_text (names_of p.channels) p c.args.choice net x.next c.trace.result.now c.trace-trace.result.now c.copy_behind.new.news c.len-made.result x.turn was now fresh c.len-made.ensures.len in
    let second =
    c.in_ok-write_tail.ensures
    ∙ ap (λ cs. c.write_head.new.out.items ++ turn_tail (names_of cs) c.args.places.now taken left (entries (names_of cs) (c.len-made.result - length c.copy_behind.new.news + 1) (c.copy_behind.new.news))) c.channels.ensures
    ∙ ap (λ es. c.write_head.new.out.items ++ turn_tail (names_of p.channels) c.args.places.now taken left es) made in
    steps_to c.args.places.now p keys c.args.turn c.args.choice net c.args.tables.now c.take_turn.new.self taken left c.args.out.now.items c.write_head.new.out.items _ h x next first second
