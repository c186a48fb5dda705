use Rattle.std.proofs.Common.{◌≡◌, ◌∙◌, ap, length, true, false}
use Rattle.std.specs.Map.{keys_of}
use Rattle.std.specs.Prelude.{not}
use Rattle.indexmap.specs.IndexMap.{keys}
use Rattle.occ_check_meaning.specs.Scope.{is_among, keep}
use Rattle.occ_check_lines.proofs.Twice.{begins, clashes, goes_on, keys_more, told_among}
use Rattle.occ_check_lines.proofs.Refusals.{refused}
use Rattle.occ_check_lines.proofs.declaration.once.Goals as goal

pub loop-name-init : goal.loop-name-init
loop-name-init c = begins c.args.names.now (keys c.new-seen.result) (ap (λ es. length (keys_of es)) c.new-seen.ensures.empty)

pub returns-then-not-added : goal.returns-then-not-added
returns-then-not-added c =
    let e = c.in_ok-added.ensures.added in
    let same = c.in_ok-copy.ensures in
    let among : is_among c.name-item.result (keys c.loop-name.seen) ≡ true = told_among (keys c.loop-name.seen) c.in_ok-copy.field-0 c.name-item.result c.in_ok-added.added same e ∙ ap not c.if-not-added.true in
    let no = clashes _ _ (keys c.loop-name.seen) c.name-item.result c.loop-name-test.true c.name-item.is among c.loop-name.invariant in
    refused c.twice.result _ (ap (λ b. keep b c.args.names.now) no)

pub loop-name-preserved : goal.loop-name-preserved
loop-name-preserved c =
    let e = c.in_ok-added.ensures.added in
    let same = c.in_ok-copy.ensures in
    let among : is_among c.name-item.result (keys c.loop-name.seen) ≡ false = told_among (keys c.loop-name.seen) c.in_ok-copy.field-0 c.name-item.result c.in_ok-added.added same e ∙ ap not c.if-not-added.false in
    goes_on _ _ (keys c.loop-name.seen) _ c.name-item.result c.loop-name-test.true c.name-item.is among
    (keys_more (keys c.loop-name.seen) _ c.in_ok-copy.field-0 c.name-item.result same among c.in_ok-added.ensures.keys) c.loop-name.invariant
