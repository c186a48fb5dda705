use Rattle.occ_check_meaning.specs.Declarations as meant
use Rattle.occ_check_lines.proofs.Declarations.{Continues}
use Rattle.occ_check_lines.proofs.declaration.variables_declared.Given as goal

abbrev pub invariant-loop-name : goal.invariant-loop-name
invariant-loop-name l = Continues (meant.variable_declared l.depth l.primitive l.sizes) l.names l.name-index l.initial.numbers l.opened l.numbers
