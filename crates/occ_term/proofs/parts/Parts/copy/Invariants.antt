use Rattle.std.proofs.Common.{◌≡◌, take}
use Rattle.occ_term.proofs.parts.Parts.copy.Given as goal

abbrev pub invariant-loop-part : goal.invariant-loop-part
invariant-loop-part l = l.parts ≡ take l.part-index l.self
