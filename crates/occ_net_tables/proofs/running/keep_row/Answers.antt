use Rattle.std.proofs.Common.{◌≡◌, ◌∙◌, ◌+◌, ◌<◌, [], ◌∷◌, length, None, Some, refl, sym, ap, arith}
use Rattle.std.specs.Prelude.{slice_get}
use Rattle.occ_choices.specs.Plans.{choices_of}
use Rattle.occ_net_tables.specs.Rows.{kept_more}
use Rattle.occ_net_tables.proofs.OneChange.{get_some}
use Rattle.occ_net_tables.proofs.Rowed.{kept_length, next_kept, only_placed}
use Rattle.occ_net_tables.proofs.running.keep_row.Goals as goal

pub unreachable-requires : goal.unreachable-requires
unreachable-requires c =
    let list = choices_of c.args.plan.now in
    let old = c.args.kept.now.items in
    let long = ap length (c.loop-more.invariant (0 ∷ []) refl) ∙ kept_length c.args.keep (0 ∷ []) list old (length old) c.loop-more._more in
    let at : c.len.result ≡ length c.loop-more.kept.items = c.len.ensures ∙ c.loop-more.kept.ok.0 in
    let within : c.len.result < length list = omega (arith, long, at, c.requires, c.loop-more-test.true) in
    let x = get_some list c.len.result within in
    let never : Some x.0 ≡ None = sym x.1 ∙ sym c.at.ensures ∙ c.in_default.is in
    absurd cc

pub loop-more-preserved : goal.loop-more-preserved
loop-more-preserved c = λ ready one.
    let list = choices_of c.args.plan.now in
    let old = c.args.kept.now.items in
    let choice = c.in-Some.given in
    let long = ap length (c.loop-more.invariant ready one) ∙ kept_length c.args.keep ready list old (length old) c.loop-more._more in
    let place : length old + c.loop-more._more ≡ c.len.result = sym (c.len.ensures ∙ c.loop-more.kept.ok.0 ∙ long) in
    let at : slice_get list (length old + c.loop-more._more) ≡ Some choice = ap (slice_get list) place ∙ sym c.at.ensures ∙ c.in-Some.is in
    next_kept c.args.keep ready list old c.loop-more.kept.items c.loop-more._more choice c.kept_choice.result (c.loop-more.invariant ready one) at (c.kept_choice.ensures ready (only_placed ready choice one)) c.push.new.self.items c.in_ok-push.ensures.items

pub returns : goal.returns
returns c = λ ready one.
    let all : c.loop-more._more ≡ c.args.count = omega arith in
    c.loop-more.invariant ready one ∙ ap (kept_more c.args.keep ready (choices_of c.args.plan.now) (length c.args.kept.now.items) c.args.kept.now.items) all
