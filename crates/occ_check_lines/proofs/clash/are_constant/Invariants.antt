use Rattle.std.proofs.Common.{◌≡◌, drop, map}
use Rattle.occ_term.specs.View.{expression_of, subscripts}
use Rattle.occ_check_meaning.specs.Items.{are_constant}
use Rattle.occ_check_lines.proofs.clash.are_constant.Given as goal

abbrev pub invariant-loop-subscript : goal.invariant-loop-subscript
invariant-loop-subscript l = are_constant (subscripts (map expression_of (drop l.subscript-index l.list))) ≡ are_constant (subscripts (map expression_of l.list))
