use Rattle.occ_program.specs.Explained.{TellsFirst}
use Rattle.occ_program.proofs.reporting.answers_told.Given as goal

abbrev pub invariant-loop-place : goal.invariant-loop-place
invariant-loop-place l = TellsFirst l.words l.inputs l.answers l.place l.text.items
