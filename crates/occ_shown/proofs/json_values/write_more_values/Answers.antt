use Rattle.std.proofs.Common.{◌∙◌, ◌∷◌, ◌++◌, [], pos, get_or, refl, ap, append_assoc}
use Rattle.occ_shown.specs.Json.{value_json, more_values}
use Rattle.occ_shown.proofs.Texts.{IsText, text_step, get_or_self}
use Rattle.occ_shown.proofs.json_values.write_more_values.Goals as goal

pub loop-value-preserved : goal.loop-value-preserved
loop-value-preserved c =
    let text : IsText (λ v. 44 ∷ value_json c.args.primitive v) (more_values c.args.primitive) = record { none = refl; more = λ x xs. refl } in
    let grown = c.in_ok-write_value.ensures ∙ ap (λ l. l ++ value_json c.args.primitive (get_or c.args.values.now c.loop-value.value-index (pos 0))) c.in_ok-push.ensures.items ∙ append_assoc c.loop-value.out.items (44 ∷ []) (value_json c.args.primitive (get_or c.args.values.now c.loop-value.value-index (pos 0))) in
    text_step text c.args.values.now c.loop-value.value-index (get_or c.args.values.now c.loop-value.value-index (pos 0)) c.loop-value-test.true (get_or_self c.args.values.now c.loop-value.value-index (pos 0) c.loop-value-test.true) c.args.out.now.items c.loop-value.out.items _ c.loop-value.invariant grown
