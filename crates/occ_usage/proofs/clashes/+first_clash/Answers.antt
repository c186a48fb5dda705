use Rattle.std.proofs.Common.{◌≡◌, ◌/◌, ◌++◌, List, length, map, take, ap, ◌∙◌, subst, arith}
use Rattle.std.specs.Prelude.{Option, Some}
use Rattle.std.proofs.lemmas.List.{take-append-drop}
use Rattle.occ_usage.specs.declared.noted.Found.{Found}
use Rattle.occ_usage.specs.Noted.{Finds, clash_among, uses_in}
use Rattle.occ_usage.specs.declared.noted.Use.{Use}
use Rattle.occ_usage.proofs.Branches.{finds_left, finds_nothing, finds_right}
use Rattle.occ_usage.proofs.clashes.+first_clash.Goals as goal

pub returns-then-middle-eq0 : goal.returns-then-middle-eq0
returns-then-middle-eq0 t c = finds_nothing c.args.lists.now (let e = c.if-middle-eq0.true in omega arith)

pub returns-in-Some : goal.returns-in-Some
returns-in-Some t c =
    let lists = c.args.lists.now in
    let parts : c.split_at.result.0.now ++ c.split_at.result.1.now ≡ lists =
    ap (λ (l : List (List Use)). l ++ c.split_at.result.1.now) c.split_at.ensures.front ∙ ap (λ (l : List (List Use)). take (length lists / 2) lists ++ l) c.split_at.ensures.back
    ∙ take-append-drop (length lists / 2) lists in
    subst (λ (l : List (List Use)). Finds (Some c.in-Some.found) (clash_among (map uses_in l))) parts
    (finds_left c.split_at.result.0.now c.split_at.result.1.now c.in-Some.found
    (subst (λ (f : Option Found). Finds f (clash_among (map uses_in c.split_at.result.0.now))) c.in-Some.is c.in_ok-found.ensures))

pub returns-in_ok-after-in-None : goal.returns-in_ok-after-in-None
returns-in_ok-after-in-None t c =
    let lists = c.args.lists.now in
    let parts : c.split_at.result.0.now ++ c.split_at.result.1.now ≡ lists =
    ap (λ (l : List (List Use)). l ++ c.split_at.result.1.now) c.split_at.ensures.front ∙ ap (λ (l : List (List Use)). take (length lists / 2) lists ++ l) c.split_at.ensures.back
    ∙ take-append-drop (length lists / 2) lists in
    subst (λ (l : List (List Use)). Finds c.earlier.result (clash_among (map uses_in l))) parts
    (finds_right c.split_at.result.0.now c.split_at.result.1.now _ _ _ c.earlier.result c.in_ok-found.ensures c.in-None.is c.in_ok-across-in-None.ensures c.in_ok-after-in-None.ensures c.earlier.ensures)
