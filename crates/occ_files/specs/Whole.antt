-- A text that is there as a whole.
-- Manual: nothing; this is (own).
use Rattle.std.specs.Prelude.{List, ℕ}
use Rattle.occ_files.specs.declared.pieces.Whole.{Whole}

-- what is left of it
abbrev pub rest_of : Whole → List ℕ
rest_of w = w.rest.now
