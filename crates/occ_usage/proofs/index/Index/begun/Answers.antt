use Rattle.std.proofs.Common.{◌≡◌, List, nat_le, rules, subst, sym}
use Rattle.std.specs.List.Sorted.{IsNonDecreasingBy, IsPartitionPoint}
use Rattle.std.specs.Prelude.{true, false}
use Rattle.std.proofs.lemmas.List.Sorted.{IsPartitionPoint-from_clause, IsPartitionedBy-leb}
use Rattle.occ_usage.specs.declared.index.Span.{Span}
use Rattle.occ_usage.proofs.Reaches.{above, at_most}
use Rattle.occ_usage.proofs.index.Index.begun.Goals as goal

pub returns : goal.returns
returns c =
    let n = c.args.number in
    let rises : IsNonDecreasingBy (λ (s : Span). s.first) c.deref.result.now = subst (λ (xs : List Span). IsNonDecreasingBy (λ (s : Span). s.first) xs) (sym c.deref.ensures.value) c.requires.rises in
    let found = IsPartitionPoint-from_clause (λ (s : Span). nat_le s.first n) c.deref.result.now c.partition_point.result c.partition_point.ensures.partitioned
    (IsPartitionedBy-leb (λ (s : Span). s.first) c.deref.result.now n rises) (λ a r f' k. search rules) in
    let point : IsPartitionPoint (λ (s : Span). nat_le s.first n ≡ true) (λ (s : Span). nat_le s.first n ≡ false) c.args.self.now.spans.items c.partition_point.result =
    subst (λ (xs : List Span). IsPartitionPoint (λ (s : Span). nat_le s.first n ≡ true) (λ (s : Span). nat_le s.first n ≡ false) xs c.partition_point.result) c.deref.ensures.value found in
    record { bound = search rules; begun = λ k d low high. at_most _ n (point.0 k d low high); later = λ k d low high. above _ n (point.1 k d low high) }
