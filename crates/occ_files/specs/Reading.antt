-- What a counting reader shows, and what a fault of reading tells.
-- Manual: nothing; this is (own).
use Rattle.std.specs.Prelude.{List, Option, ℕ, ◌-◌, ◌<◌, ◌≡◌, ◌++◌}
use Rattle.std.specs.Io.KnownBytes.{Consumes}
use Rattle.occ_files.specs.declared.reader.CountedReader.{CountedReader}
use Rattle.occ_files.specs.declared.fault.InputFault.{InputFault}
use Rattle.occ_files.specs.declared.fault.InputFault.TheVariants.{Read, Memory}
use Rattle.occ_files.specs.declared.reason.Reason.{Reason}

-- how many reads answered an error
abbrev pub failures_of : {R : Type 0} → CountedReader R → ℕ
failures_of c = c.failed

-- how many of them were interrupted
abbrev pub interruptions_of : {R : Type 0} → CountedReader R → ℕ
interruptions_of c = c.interrupted

-- how many were not: after those the reader was not asked again
abbrev pub breaks_of : {R : Type 0} → CountedReader R → ℕ
breaks_of c = failures_of c - interruptions_of c

-- the reader itself
abbrev pub reader_of : {R : Type 0} → CountedReader R → R
reader_of c = c.reader

-- these are the next bytes, of a reader that tells what it has
abbrev pub ReadsNext : {R : Type 0} → (R → Option (List ℕ)) → CountedReader R → CountedReader R → List ℕ → Type 0
ReadsNext remaining old new bytes = Consumes (remaining (reader_of old)) (remaining (reader_of new)) bytes

-- why the last of them failed
abbrev pub reason_kept : {R : Type 0} → CountedReader R → Reason
reason_kept c = c.reason

-- a failed read is told only where one failed, with the reason of the last one, and want of memory only where none did but those that were interrupted
abbrev pub TellsReason : {R : Type 0} → CountedReader R → CountedReader R → InputFault → Type 0
TellsReason old new (Read reason) = (failures_of old < failures_of new) × (reason ≡ reason_kept new)
TellsReason old new Memory = breaks_of new ≡ breaks_of old

-- ---- what the code collects; private contracts alone cite it

-- what was added are the next bytes
pub record Grows {R : Type 0} (remaining : R → Option (List ℕ)) (old new : CountedReader R) (before after : List ℕ) : Type 0 where
  pub more : List ℕ
  pub next : ReadsNext remaining old new more
  pub added : after ≡ before ++ more
