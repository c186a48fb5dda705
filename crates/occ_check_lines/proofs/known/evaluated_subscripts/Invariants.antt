use Rattle.std.proofs.Common.{◌≡◌, map, take}
use Rattle.occ_term.specs.View.{expression_of}
use Rattle.occ_check_lines.specs.View.{evaluated_of}
use Rattle.occ_check_lines.proofs.known.evaluated_subscripts.Given as goal

abbrev pub invariant-loop-subscript : goal.invariant-loop-subscript
invariant-loop-subscript l = map expression_of l.expressions ≡ map evaluated_of (take l.subscript-index l.subscripts)
