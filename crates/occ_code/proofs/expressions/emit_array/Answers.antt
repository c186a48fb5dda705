use Rattle.std.proofs.Common.{◌∙◌, ◌∷◌, [], OnOk, ap, subst, sym}
use Rattle.occ_term.specs.Terms.{OfMany}
use Rattle.occ_term.specs.View.{array_of}
use Rattle.occ_machine.specs.declared.instr.Instr.TheVariants.{PartText}
use Rattle.occ_code.specs.Emits.{Emits}
use Rattle.occ_code.specs.Expressions.{item_code}
use Rattle.occ_code.proofs.Letters.{letters_back}
use Rattle.occ_code.proofs.expressions.emit_array.Goals as goal

pub returns-in_ok-text-in-Text : goal.returns-in_ok-text-in-Text
returns-in_ok-text-in-Text c =
    subst (λ l. OnOk c.put.result (Emits c.args.code.now.items l c.put.new.code.items))
    (ap (λ t. PartText c.args.primitive t ∷ []) (c.in_ok-text-in-Text.ensures ∙ sym (letters_back c.in-Text.text)) ∙ ap (λ a. item_code (OfMany c.args.primitive (array_of a))) (sym c.in-Text.is))
    c.put.ensures
