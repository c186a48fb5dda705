-- What is known of a process, as the code has it.
-- Manual: nothing; this is (own).
use Rattle.occ_report.specs.Places.{Known}
use Rattle.occ_report.specs.declared.places.Located.{Located}

abbrev pub known : Located → Known
known l = record { name = l.name.items; stops = l.stops.items; calls = l.calls.items }
