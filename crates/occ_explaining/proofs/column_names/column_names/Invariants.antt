use Rattle.std.proofs.Common.{◌≡◌, map}
use Rattle.occ_explaining.specs.ColumnNames.{column_names}
use Rattle.occ_explaining.proofs.column_names.column_names.Given as goal

abbrev pub invariant-loop-number : goal.invariant-loop-number
invariant-loop-number l = map (λ v. v.items) l.names.items ≡ column_names l.places l.number
