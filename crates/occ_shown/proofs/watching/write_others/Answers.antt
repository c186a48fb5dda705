use Rattle.std.proofs.Common.{◌∙◌, ◌++◌, refl, ap, sym, append_assoc, codes}
use Rattle.occ_shown.specs.Answers.{later_text, part_text}
use Rattle.occ_shown.proofs.Texts.{IsText, text_step}
use Rattle.occ_shown.proofs.watching.write_others.Goals as goal

pub loop-part-preserved : goal.loop-part-preserved
loop-part-preserved c =
    let text : IsText (λ p. codes "; " ++ part_text p) later_text = record { none = refl; more = λ p ps. sym (append_assoc (codes "; ") (part_text p) (later_text ps)) } in
    let grown = c.in_ok-write_owned.ensures ∙ ap (λ l. l ++ part_text c.part-item.result) c.in_ok-extend_from_slice.ensures.items ∙ append_assoc c.loop-part.out.items (codes "; ") (part_text c.part-item.result) in
    text_step text c.args.parts.now c.loop-part.part-index c.part-item.result c.loop-part-test.true c.part-item.is c.args.out.now.items c.loop-part.out.items _ c.loop-part.invariant grown
