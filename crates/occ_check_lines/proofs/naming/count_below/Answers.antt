use Rattle.std.proofs.Common.{rules, ℕ}
use Rattle.std.specs.Prelude.{nat_lt}
use Rattle.std.proofs.lemmas.List.Sorted.{IsPartitionPoint-from_clause, IsPartitionedBy-ltb}
use Rattle.occ_check_lines.proofs.NamingOthers.{point_below}
use Rattle.occ_check_lines.proofs.naming.count_below.Goals as goal

pub returns : goal.returns
returns c =
    let limit = c.args.limit in
    point_below limit c.args.sorted.now c.partition_point.result c.partition_point.ensures.bound
    (IsPartitionPoint-from_clause (λ (n : ℕ). nat_lt n limit) c.args.sorted.now c.partition_point.result c.partition_point.ensures.partitioned
    (IsPartitionedBy-ltb (λ (n : ℕ). n) c.args.sorted.now limit c.requires) (λ a r f' k. search rules))
