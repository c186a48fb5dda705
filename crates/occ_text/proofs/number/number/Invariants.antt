use Rattle.std.proofs.Common.{◌≡◌, ◌<◌, ◌^◌, take}
use Rattle.occ_text.specs.Spelling.{value}
use Rattle.occ_text.proofs.number.number.Given as goal

abbrev pub invariant-loop-byte : goal.invariant-loop-byte
invariant-loop-byte l = (l.number ≡ value l.base (take l.byte-index l.digits)) × (l.number < 2 ^ 32)
