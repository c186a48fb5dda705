use Rattle.std.proofs.Common.{◌∙◌, ◌≡◌, ◌++◌, ap, length, subst, sym}
use Rattle.std.specs.Prelude.{OnOk, codes, slice_get}
use Rattle.occ_exploring.specs.Texts.{lasting_text}
use Rattle.occ_exploring.specs.Within.{counted_text, keeping_text, outside_text, share_text}
use Rattle.occ_exploring.proofs.Growth.{two_grown}
use Rattle.occ_exploring.proofs.keeping_lines.write_keeping.Goals as goal

pub returns-in_ok-write_many-in-Same : goal.returns-in_ok-write_many-in-Same
returns-in_ok-write_many-in-Same c =
    two_grown c.write_lasting.result c.args.out.now.items (counted_text (codes "same answers as the specification: ") c.args.specified (codes "answer")) (lasting_text c.args.own.now.lasting) _ _ _
    c.in_ok-write_many-in-Same.ensures c.write_lasting.ensures (ap (keeping_text c.args.asked c.args.own.now c.args.specified) c.in-Same.is)

pub returns-in_ok-write_many-in-Within : goal.returns-in_ok-write_many-in-Within
returns-in_ok-write_many-in-Within c =
    let share : c.as_slice.result.now ≡ share_text (length c.args.own.now.answers.items) = c.as_slice.ensures.value ∙ c.in_ok-text-in-Within.ensures ∙ ap share_text (c.len.ensures ∙ c.args.own.now.answers.ok.0) in
    two_grown c.write_lasting-in-Within.result c.args.out.now.items (counted_text c.as_slice.result.now c.args.specified (codes "answer")) (lasting_text c.args.own.now.lasting) _ _ _
    c.in_ok-write_many-in-Within.ensures c.write_lasting-in-Within.ensures
    (ap (keeping_text c.args.asked c.args.own.now c.args.specified) c.in-Within.is ∙ ap (λ t. counted_text t c.args.specified (codes "answer") ++ lasting_text c.args.own.now.lasting) (sym share))

pub returns-in-Outside : goal.returns-in-Outside
returns-in-Outside c =
    let there = c.answer_at-answer.ensures ∙ ap (λ xs. slice_get xs c.in-Outside.place) c.as_slice-in-Outside.ensures.value in
    subst (λ t. OnOk c.write_outside.result (c.write_outside.new.out.items ≡ c.args.out.now.items ++ t))
    (ap (λ o. outside_text c.args.asked o c.args.specified) there ∙ sym (ap (keeping_text c.args.asked c.args.own.now c.args.specified) c.in-Outside.is)) c.write_outside.ensures
