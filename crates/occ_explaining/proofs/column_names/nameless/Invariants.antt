use Rattle.std.proofs.Common.{◌≡◌, drop, map}
use Rattle.occ_explaining.specs.ColumnNames.{nameless}
use Rattle.occ_explaining.proofs.column_names.nameless.Given as goal

abbrev pub invariant-loop-word : goal.invariant-loop-word
invariant-loop-word l = nameless (map (λ v. v.items) l.names.items) (drop l.word-index l.words) ≡ nameless (map (λ v. v.items) l.names.items) l.words
