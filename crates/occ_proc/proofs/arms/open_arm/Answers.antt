use Rattle.std.proofs.Common.{◌∙◌, ap, subst, sym}
use Rattle.occ_term.specs.declared.message.Part.TheVariants.{Many, Counted}
use Rattle.occ_machine.specs.Machine.{open_arm}
use Rattle.occ_proc.specs.Doing.{IsArm}
use Rattle.occ_proc.proofs.Mapped.{if_ok_map}
use Rattle.occ_proc.proofs.arms.open_arm.Goals as goal

pub returns-in-Many : goal.returns-in-Many
returns-in-Many c =
    if_ok_map (λ arm. (type : _) → IsArm arm (open_arm (Many type c.as_slice.result.now))) (λ arm. IsArm arm (open_arm c.args.part.now)) c.skip_arm.result
    (λ arm h. subst (IsArm arm) (ap (λ vs. open_arm (Many c.in-Many.field-0 vs)) c.as_slice.ensures ∙ sym (ap open_arm c.in-Many.is)) (h c.in-Many.field-0)) c.skip_arm.ensures

pub returns-in-Counted : goal.returns-in-Counted
returns-in-Counted c =
    if_ok_map (λ arm. (type : _) → IsArm arm (open_arm (Counted type c.as_slice-in-Counted.result.now))) (λ arm. IsArm arm (open_arm c.args.part.now)) c.input_arm.result
    (λ arm h. subst (IsArm arm) (ap (λ vs. open_arm (Counted c.in-Counted.field-0 vs)) c.as_slice-in-Counted.ensures ∙ sym (ap open_arm c.in-Counted.is)) (h c.in-Counted.field-0)) c.input_arm.ensures
