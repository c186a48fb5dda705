use Rattle.std.proofs.Common.{◌∙◌, List, subst, sym, ℕ}
use Rattle.std.specs.List.Sorted.{IsNonDecreasingBy}
use Rattle.std.proofs.lemmas.List.Sorted.{IsNonDecreasingBy-from_sort}
use Rattle.occ_check_lines.specs.Clash.{one_names_another, stretches_of}
use Rattle.occ_check_lines.proofs.NamingOthers.{named_by_sorted}
use Rattle.occ_check_lines.proofs.naming.some_names_another.Goals as goal

pub one_names_another-requires-clause-firsts : goal.one_names_another-requires-clause-firsts
one_names_another-requires-clause-firsts c =
    subst (λ (ns : List ℕ). IsNonDecreasingBy (λ (n : ℕ). n) ns) (sym c.deref.ensures.value) (IsNonDecreasingBy-from_sort (λ (n : ℕ). n) _ c.sort_unstable.ensures.sorted)

pub one_names_another-requires-clause-ends : goal.one_names_another-requires-clause-ends
one_names_another-requires-clause-ends c =
    subst (λ (ns : List ℕ). IsNonDecreasingBy (λ (n : ℕ). n) ns) (sym c.deref-2.ensures.value) (IsNonDecreasingBy-from_sort (λ (n : ℕ). n) _ c.sort_unstable-2.ensures.sorted)

pub returns : goal.returns
returns c =
    let stretches = stretches_of c.args.places.now in
    c.one_names_another.ensures ∙ (λ i. one_names_another (c.deref.ensures.value i) (c.deref-2.ensures.value i) stretches)
    ∙ named_by_sorted stretches _ _ _ _ c.in_ok-firsts.ensures c.in_ok-ends.ensures c.sort_unstable.ensures.permutation c.sort_unstable-2.ensures.permutation
