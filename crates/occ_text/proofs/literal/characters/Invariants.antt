use Rattle.std.proofs.Common.{◌≡◌, length}
use Rattle.occ_text.specs.Reading.{chars_from}
use Rattle.occ_text.proofs.Steps.{with_front}
use Rattle.occ_text.proofs.literal.characters.Given as goal

abbrev pub invariant-loop-rest : goal.invariant-loop-rest
invariant-loop-rest l = with_front l.text.items (chars_from 0 l.rest) ≡ chars_from 0 l.bytes

abbrev pub decreases-loop-rest : goal.decreases-loop-rest
decreases-loop-rest l = length l.rest
