use Rattle.std.proofs.Common.{◌≡◌, ◌+◌, ◌++◌, length, map}
use Rattle.occ_explaining.specs.ColumnNames.{left_from}
use Rattle.occ_explaining.proofs.column_names.left_out.Given as goal

abbrev pub invariant-loop-first : goal.invariant-loop-first
invariant-loop-first l = record {
  counted : l.number + length l.rest ≡ length l.fn.names;
  left : l.left.items ++ left_from l.only l.without l.number (map (λ v. v.items) l.rest) ≡ left_from l.only l.without 0 (map (λ v. v.items) l.fn.names);
}

abbrev pub decreases-loop-first : goal.decreases-loop-first
decreases-loop-first l = length l.rest
