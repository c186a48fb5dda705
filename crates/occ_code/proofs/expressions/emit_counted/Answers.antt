use Rattle.std.proofs.Common.{◌∙◌, ◌∷◌, ◌++◌, [], ap, sym}
use Rattle.occ_term.specs.Terms.{OfCounted}
use Rattle.occ_term.specs.View.{array_of, expression_of, place_of}
use Rattle.occ_machine.specs.declared.instr.Instr.TheVariants.{PartCounted, PartCountedText}
use Rattle.occ_code.specs.Expressions.{expression_code, item_code, place_code}
use Rattle.occ_code.proofs.Emitting.{emits_as, emits_from, emits_then}
use Rattle.occ_code.proofs.Letters.{letters_back}
use Rattle.occ_code.proofs.expressions.emit_counted.Goals as goal
use Rattle.occ_code.proofs.expressions.emit_counted.Goals.{in-Cells+in_ok-emit_place_before-in-Cells, in-Text+in_ok-text-in-Text+in_ok-put-in-Text}

pub returns : goal.returns
returns c =
    elim c.match-array.branch [
      | in-Cells+in_ok-emit_place_before-in-Cells w ↦ emits_as (emits_then w.in_ok-emit_place_before-in-Cells.ensures (emits_from (sym (ap (λ v. v.items) w.code-is)) c.in_ok-emit_expression.ensures))
          (ap (λ n. expression_code (expression_of c.args.count.now) ++ (place_code (place_of w.in-Cells.place) ++ PartCounted c.args.primitive c.args.line n ∷ [])) w.components-all.ensures
          ∙ ap (λ a. item_code (OfCounted c.args.primitive c.args.line (expression_of c.args.count.now) (array_of a))) (sym w.in-Cells.is))
      | in-Text+in_ok-text-in-Text+in_ok-put-in-Text w ↦ emits_as (emits_then w.in_ok-put-in-Text.ensures (emits_from (sym (ap (λ v. v.items) w.code-is)) c.in_ok-emit_expression.ensures))
          (ap (λ t. expression_code (expression_of c.args.count.now) ++ PartCountedText c.args.primitive c.args.line t ∷ []) (w.in_ok-text-in-Text.ensures ∙ sym (letters_back w.in-Text.text))
          ∙ ap (λ a. item_code (OfCounted c.args.primitive c.args.line (expression_of c.args.count.now) (array_of a))) (sym w.in-Text.is))
    ]
