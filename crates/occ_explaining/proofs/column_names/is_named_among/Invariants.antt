use Rattle.std.proofs.Common.{◌≡◌, drop}
use Rattle.occ_explaining.specs.ColumnNames.{is_named_among}
use Rattle.occ_explaining.proofs.column_names.is_named_among.Given as goal

abbrev pub invariant-loop-word : goal.invariant-loop-word
invariant-loop-word l = is_named_among (drop l.word-index l.words) l.name l.number ≡ is_named_among l.words l.name l.number
