-- What a counting writer shows.
-- Manual: nothing; this is (own).
use Rattle.std.specs.Prelude.{ℕ, List, Option}
use Rattle.occ_shown.specs.declared.counted.Counted.{Counted}
use Rattle.std.specs.Io.KnownBytes.{Appends}

-- how many writes have failed
abbrev pub failures_of : {W : Type 0} → Counted W → ℕ
failures_of c = c.failed

-- the writer itself
abbrev pub writer_of : {W : Type 0} → Counted W → W
writer_of c = c.writer

-- these bytes were appended, of a writer that tells what it has
abbrev pub AppendsTo : {W : Type 0} → (W → Option (List ℕ)) → Counted W → Counted W → List ℕ → Type 0
AppendsTo contents old new bytes = Appends (contents (writer_of old)) (contents (writer_of new)) bytes
