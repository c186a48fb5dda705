use Rattle.std.proofs.Common.{rules}
use Rattle.occ_text.specs.Reading.{double_of}
use Rattle.occ_text.proofs.symbol.double.Goals as goal

pub returns-in-47-eq92 : goal.returns-in-47-eq92
unfolding double_of
returns-in-47-eq92 c = search rules
