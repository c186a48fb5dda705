use Rattle.std.proofs.Common.{refl, sym, ap, ◌∙◌}
use Rattle.occ_usage.specs.Clashes.{clashes}
use Rattle.occ_usage.specs.Noted.{breaking}
use Rattle.occ_term.specs.View.{term_of}
use Rattle.occ_term.specs.UnfoldedProgram.{Lawful}
use Rattle.occ_term.specs.declared.term.Term.{Term}
use Rattle.occ_usage.proofs.Unlawful.{lawful_where, refuses}
use Rattle.occ_usage.proofs.checked.check_usage.Goals as goal

lawful : (c : goal.In-Ok-None) → Lawful c.args.unfolded
lawful c =
    lawful_where (term_of c.args.unfolded.term) (λ rule n.
    ap (λ (t : Term). clashes (breaking rule n) (term_of t)) (sym c.term.ensures) ∙ c.in-Ok-None.ensures.none c.in-Ok-None.field-0-is rule n)

pub invariant_of-result : goal.invariant_of-result
invariant_of-result c = lawful c

pub returns-in-Ok-None-clause-accepted : goal.returns-in-Ok-None-clause-accepted
returns-in-Ok-None-clause-accepted c = (refl, lawful c)

pub returns-in-Ok-Some-clause-refused : goal.returns-in-Ok-Some-clause-refused
returns-in-Ok-Some-clause-refused c =
    let f = c.in-Ok-Some.found in (
      refl,
      refuses c.fault_of-fault.result c.args.unfolded f.rule f.number c.fault_of-fault.ensures
          (ap (λ (t : Term). clashes (breaking f.rule f.number) (term_of t)) (sym c.term.ensures) ∙ c.in-Ok-Some.ensures.some f c.in-Ok-Some.field-0-is),
    )
