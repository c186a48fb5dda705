use Rattle.std.proofs.Common.{◌≡◌, ◌∙◌, sym, ap, length, arith, List, [], ◌∷◌, None, refl}
use Rattle.std.proofs.lemmas.Grind.{common_steps}
use Rattle.occ_term.specs.View.{target_of, targets_of}
use Rattle.occ_term.specs.declared.expression.Target.{Target as Code}
use Rattle.occ_term.specs.Terms.{Target, Into, IntoCounted, place, no_subscripts, then_subscript}
use Rattle.occ_code.specs.Expressions.{single_target}
use Rattle.occ_code.proofs.expressions.only_variable.Goals as goal

several : (t u : Target) (ts : List Target) → single_target (t ∷ u ∷ ts) ≡ None
several (Into (place line c [] no_subscripts)) u ts = refl
several (Into (place line c [] (then_subscript e es))) u ts = refl
several (Into (place line c (n ∷ ns) subs)) u ts = refl
several (IntoCounted line n a) u ts = refl

more : (t : Code) (ts : List Code) → (length ts ≡ 0 → ⊥) → single_target (target_of t ∷ targets_of ts) ≡ None
more t [] h = absurd (h refl)
more t (u ∷ ts) h = several (target_of t) (target_of u) (targets_of ts)

pub returns-else-is_empty : goal.returns-else-is_empty
returns-else-is_empty c =
    let some : length c.in-Some.others.now ≡ 0 → ⊥ = λ e. (let no = c.if-is_empty.false in let is = c.is_empty.ensures in grind (arith, common_steps)) in
    sym (ap (λ ts. single_target (targets_of ts)) c.in-Some.ensures.cases.0 ∙ more c.in-Some.target.now c.in-Some.others.now some)
