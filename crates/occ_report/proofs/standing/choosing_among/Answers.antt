use Rattle.std.proofs.Common.{◌≡◌, ◌∙◌, ◌∷◌, ◌++◌, List, [], ap, append-nil, arith, length, refl, rules, sym, ℕ}
use Rattle.occ_report.specs.Reports.{choosing_among}
use Rattle.occ_report.proofs.Lines.{choosing_step}
use Rattle.occ_report.proofs.standing.choosing_among.Goals as goal

pub loop-number-preserved : goal.loop-number-preserved
loop-number-preserved c = λ p keyboard net h.
    let rest : c.loop-number.rest.now ≡ c.in-Some.number.now ∷ c.in-Some.others.now = search rules in
    choosing_step net.tasks c.in-Some.number.now c.in-Some.others.now c.loop-number.choosing.items _ _ (c.in_ok-add_choosing.ensures p keyboard net h)
    (ap (λ l. c.loop-number.choosing.items ++ choosing_among net.tasks l) (sym rest) ∙ c.loop-number.invariant p keyboard net h)

nothing : (xs : List ℕ) → length xs ≡ 0 → xs ≡ []
nothing [] e = refl
nothing (x ∷ xs) e = absurd (omega (arith, e))

pub returns : goal.returns
returns c = λ p keyboard net h.
    let empty : length c.loop-number.rest.now ≡ 0 = c.in_default.ensures.cases in
    let none : c.loop-number.rest.now ≡ [] = nothing c.loop-number.rest.now empty in
    sym (append-nil c.loop-number.choosing.items) ∙ ap (λ l. c.loop-number.choosing.items ++ choosing_among net.tasks l) (sym none) ∙ c.loop-number.invariant p keyboard net h
