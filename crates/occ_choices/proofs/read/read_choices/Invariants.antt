use Rattle.occ_choices.specs.Reading.{ReadTo}
use Rattle.occ_choices.proofs.read.read_choices.Given as goal

abbrev pub invariant-loop-number : goal.invariant-loop-number
invariant-loop-number l = ReadTo l.text l.rest l.choices.items l.number
