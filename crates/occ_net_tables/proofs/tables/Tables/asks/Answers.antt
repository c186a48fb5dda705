use Rattle.std.proofs.Common.{◌≡◌, ◌∙◌, ◌≤◌, sym, ap, None, Some, length, arith}
use Rattle.std.proofs.lemmas.Option.{get_or_from_slice_get, slice_get_within}
use mathlib.Core.Bool.{true≢false}
use Rattle.occ_net_tables.proofs.Halves.{looks_elsewhere, stays_elsewhere, stays_where_some}
use Rattle.occ_net_tables.proofs.tables.Tables.asks.Goals as goal

pub returns-then-self-keyboard-clause-within : goal.returns-then-self-keyboard-clause-within
returns-then-self-keyboard-clause-within c = λ no. stays_where_some c.args.keyboard.now c.args.self.now c.args.begun c.args.pick c.if-self-keyboard.true

pub index-requires : goal.index-requires
index-requires c =
    let within = slice_get_within c.args.self.now.tasks.items c.args.begun.number (Some c.requires.task) c.requires.there in
    let len = c.args.self.now.tasks.ok.0 in
    omega (arith, within, len)

pub unreachable-requires : goal.unreachable-requires
unreachable-requires c =
    let never : Some c.requires.task ≡ None = sym (get_or_from_slice_get c.args.self.now.tasks.items c.args.begun.number (Some c.requires.task) c.index.result.now c.requires.there) ∙ sym c.index.ensures ∙ c.in-None.is in
    absurd cc

pub returns-in-Some-clause-within : goal.returns-in-Some-clause-within
returns-in-Some-clause-within c =
    let same : Some c.requires.task ≡ Some c.in-Some.task = sym (get_or_from_slice_get c.args.self.now.tasks.items c.args.begun.number (Some c.requires.task) c.index.result.now c.requires.there) ∙ sym c.index.ensures ∙ c.in-Some.is in
    λ no. stays_elsewhere c.args.keyboard.now c.args.self.now c.args.begun c.args.pick c.in-Other.is c.in-Some.task (c.requires.there ∙ ap Some same) (c.hears.ensures.0 no)

pub returns-in-Some-clause-past : goal.returns-in-Some-clause-past
returns-in-Some-clause-past c =
    let same : Some c.requires.task ≡ Some c.in-Some.task = sym (get_or_from_slice_get c.args.self.now.tasks.items c.args.begun.number (Some c.requires.task) c.index.result.now c.requires.there) ∙ sym c.index.ensures ∙ c.in-Some.is in
    let most : length c.args.keyboard.now ≤ c.args.self.now.used = omega arith in
    λ yes. looks_elsewhere c.args.keyboard.now c.args.self.now c.args.begun c.args.pick most c.in-Other.is c.in-Some.task (c.requires.there ∙ ap Some same) (λ deaf. true≢false (sym yes ∙ c.hears.ensures.1 deaf))
