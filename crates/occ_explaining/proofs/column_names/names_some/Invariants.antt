use Rattle.std.proofs.Common.{◌≡◌, ◌+◌, length, map}
use Rattle.occ_explaining.specs.ColumnNames.{names_some}
use Rattle.occ_explaining.proofs.column_names.names_some.Given as goal

abbrev pub invariant-loop-first : goal.invariant-loop-first
invariant-loop-first l = record {
  counted : l.number + length l.rest ≡ length l.fn.names;
  named : names_some l.number (map (λ v. v.items) l.rest) l.word ≡ names_some 0 (map (λ v. v.items) l.fn.names) l.word;
}

abbrev pub decreases-loop-first : goal.decreases-loop-first
decreases-loop-first l = length l.rest
