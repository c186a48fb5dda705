use Rattle.std.proofs.Common.{◌≡◌, List, ap, ◌∙◌, subst}
use Rattle.occ_term.specs.Uses.{Uses, uses_of, with_use}
use Rattle.occ_usage.specs.Clashes.{Clash}
use Rattle.occ_usage.specs.Noted.{Finds, uses_in}
use Rattle.occ_term.specs.View.{term_of}
use Rattle.occ_usage.specs.declared.noted.Use.{Use}
use Rattle.occ_usage.proofs.Unlawful.{beside_uses, finds_whole}
use Rattle.occ_usage.proofs.checked.find_clash.Goals as goal

pub returns : goal.returns
returns c =
    let t = term_of c.args.term.now in
    let covers = c.in_ok-note_term.ensures in
    let first : uses_in c.as_slice.result.now ≡ beside_uses = ap uses_in c.as_slice.ensures ∙ c.in_ok-beside.ensures in
    let second : uses_in c.as_slice-2.result.now ≡ uses_of t =
    ap uses_in c.as_slice-2.ensures ∙ covers.adds.is ∙ ap (λ (us : List Use). with_use (uses_in us) (uses_of t)) c.new-noted.ensures in
    let beside : Finds c.in_ok-with_beside.with_beside (λ (clash : Clash). clash beside_uses (uses_of t)) =
    subst (λ (u : Uses). Finds c.in_ok-with_beside.with_beside (λ (clash : Clash). clash beside_uses u)) second
    (subst (λ (u : Uses). Finds c.in_ok-with_beside.with_beside (λ (clash : Clash). clash u (uses_in c.as_slice-2.result.now))) first c.in_ok-with_beside.ensures) in
    finds_whole t c.note_term.new.found c.in_ok-with_beside.with_beside c.earlier.result covers.finds beside c.earlier.ensures
