-- The lines that say how a run ended.
-- Manual: nothing; this is (own).
use Rattle.std.specs.Prelude.{List, ℕ, ◌++◌, codes}
use Rattle.std.specs.Fmt.{decimal}
use Rattle.occ_term.specs.declared.fault.FaultKind.{FaultKind}
use Rattle.occ_term.specs.declared.fault.FaultKind.TheVariants.{Arith, Range, Convert, Shift, Count}
use Rattle.occ_term.specs.declared.ending.Ending.{Ending}
use Rattle.occ_term.specs.declared.ending.Ending.TheVariants.{Ended, Stopped, Fault, StoppedBy, Limit}

abbrev pub kind_text : FaultKind → List ℕ
kind_text Arith = codes "ARITH"
kind_text Range = codes "RANGE"
kind_text Convert = codes "CONVERT"
kind_text Shift = codes "SHIFT"
kind_text Count = codes "COUNT"

abbrev pub ending_text : Ending → List ℕ
ending_text Ended = codes "ended"
ending_text Stopped = codes "stopped"
ending_text (Fault fault) = codes "fault " ++ kind_text fault.kind ++ codes " line " ++ decimal fault.line
ending_text (StoppedBy fault) = codes "stopped " ++ kind_text fault.kind ++ codes " line " ++ decimal fault.line
ending_text Limit = codes "limit"
