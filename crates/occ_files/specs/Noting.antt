-- What a writer that keeps why it failed shows.
-- Manual: nothing; this is (own).
use Rattle.occ_files.specs.declared.noting.Noting.{Noting}
use Rattle.occ_files.specs.declared.reason.Reason.{Reason}

-- the writer itself
abbrev pub writer_of : {W : Type 0} → Noting W → W
writer_of n = n.writer

-- why its last write failed that did
abbrev pub reason_kept : {W : Type 0} → Noting W → Reason
reason_kept n = n.reason
