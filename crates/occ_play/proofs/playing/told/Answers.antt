use Rattle.std.proofs.Common.{◌∙◌, ◌<◌, ◌^◌, List, ap, length, refl, rules, sym}
use Rattle.occ_term.specs.Runs.{shown_by}
use Rattle.occ_term.specs.declared.names.Channel.{Channel}
use Rattle.occ_shown.specs.Answers.{names_of}
use Rattle.occ_net_replay.specs.Following.{AreBytes}
use Rattle.occ_play.proofs.Headline.{are_bytes, headline, outputs_are_bytes}
use Rattle.occ_play.proofs.playing.told.Goals as goal

pub answer-requires-clause-screen : goal.answer-requires-clause-screen
answer-requires-clause-screen c =
    let code = c.requires.code in
    let small : length c.args.outcome.choices.items < 2 ^ 64 = search rules in
    let keys : AreBytes c.args.keyboard.now = are_bytes c.args.keyboard.now (λ k. (c.type_inv.keyboard k).fits) in
    (outputs_are_bytes code.program c.args.options.now.quantum c.args.code.now c.args.keyboard.now c.args.outcome.choices.items c.args.outcome code.unfolds.well_formed code.lawful code.from.does keys c.requires.is small).0

pub answer-requires-clause-error : goal.answer-requires-clause-error
answer-requires-clause-error c =
    let code = c.requires.code in
    let small : length c.args.outcome.choices.items < 2 ^ 64 = search rules in
    let keys : AreBytes c.args.keyboard.now = are_bytes c.args.keyboard.now (λ k. (c.type_inv.keyboard k).fits) in
    (outputs_are_bytes code.program c.args.options.now.quantum c.args.code.now c.args.keyboard.now c.args.outcome.choices.items c.args.outcome code.unfolds.well_formed code.lawful code.from.does keys c.requires.is small).1

pub returns-clause-answer : goal.returns-clause-answer
returns-clause-answer c = λ list is.
    let small : length c.args.outcome.choices.items < 2 ^ 64 = search rules in
    let keys : AreBytes c.args.keyboard.now = are_bytes c.args.keyboard.now (λ k. (c.type_inv.keyboard k).fits) in
    let h =
    headline c.args.options.now c.args.source.now c.args.keyboard.now list c.args.trace c.args.code.now c.channels.result.now c.args.outcome _ _
    c.requires.code keys c.channels.ensures is small refl refl
    c.in_ok-bytes.ensures in
    (h.0, ap (λ (cs : List Channel). shown_by (names_of cs) c.args.outcome.trace) (sym c.channels.ensures) ∙ h.1)
