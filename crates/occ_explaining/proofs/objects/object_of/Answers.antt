use Rattle.std.proofs.Common.{◌≡◌, ◌∙◌, subst}
use Rattle.std.specs.Prelude.{IfOk, codes}
use Rattle.occ_shown.specs.Objects.{object_json}
use Rattle.occ_explaining.proofs.Members.{refusal_same}
use Rattle.occ_explaining.proofs.objects.object_of.Goals as goal

pub returns : goal.returns
returns c =
    let e = c.args.explanation.now in
    subst (λ ms. IfOk c.object_line.result (λ bytes. bytes.items ≡ object_json (codes "refused") ms))
    (refusal_same c.args.file.now e.column c.from-line.ensures c.word_end-end.ensures c.from.ensures (c.as_bytes.ensures.value ∙ c.refusal_name.ensures) c.as_slice.ensures.value c.as_slice-2.ensures.value)
    c.object_line.ensures
