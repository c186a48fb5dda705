use Rattle.std.proofs.Common.{List, sym, ap, ◌∙◌}
use Rattle.occ_term.specs.Uses.{Numbers, inputting, only, outputting, with_use}
use Rattle.occ_usage.specs.Noted.{between, uses_in}
use Rattle.occ_usage.specs.declared.noted.Use.{Use}
use Rattle.occ_usage.proofs.UseSets.{adds_then, only_between}
use Rattle.occ_usage.proofs.checked.uses_beside.Goals as goal

pub returns : goal.returns
returns c =
    let adds = adds_then c.in_ok-push.ensures (adds_then c.in_ok-push-2.ensures c.in_ok-push-3.ensures) in
    adds.is ∙ ap (λ (us : List Use). with_use (uses_in us) (with_use (outputting (between 0 1)) (with_use (inputting (between 1 2)) (inputting (between 2 3))))) c.new-noted.ensures
    ∙ ap (λ (s : Numbers). with_use (outputting s) (with_use (inputting (between 1 2)) (inputting (between 2 3)))) (sym (only_between 0))
    ∙ ap (λ (s : Numbers). with_use (outputting (only 0)) (with_use (inputting s) (inputting (between 2 3)))) (sym (only_between 1))
    ∙ ap (λ (s : Numbers). with_use (outputting (only 0)) (with_use (inputting (only 1)) (inputting s))) (sym (only_between 2))
