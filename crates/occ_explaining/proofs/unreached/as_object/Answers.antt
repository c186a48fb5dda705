use Rattle.std.proofs.Common.{◌≡◌, ◌∙◌, ◌+◌, ◌*◌, ap, subst}
use Rattle.std.specs.Prelude.{IfOk, codes}
use Rattle.occ_shown.specs.Objects.{object_json}
use Rattle.occ_explaining.proofs.Members.{unchecked_same}
use Rattle.occ_explaining.proofs.unreached.as_object.Goals as goal

pub returns : goal.returns
returns c =
    subst (λ ms. IfOk c.object_line.result (λ bytes. bytes.items ≡ object_json (codes "unchecked") ms))
    (unchecked_same c.place_told-line.ensures.file (c.from-2.ensures ∙ c.place_told-line.ensures.line) (ap (λ l. 2 * l + 1) c.from.ensures) c.as_slice.ensures)
    c.object_line.ensures
