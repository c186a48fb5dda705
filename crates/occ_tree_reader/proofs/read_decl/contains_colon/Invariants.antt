use Rattle.std.proofs.Common.{◌≡◌, length}
use Rattle.occ_text.specs.Words.{words}
use Rattle.occ_tree_grammar.specs.Lines.HeadReading.{has_colon}
use Rattle.occ_tree_reader.proofs.read_decl.contains_colon.Given as goal

abbrev pub invariant-loop-rest : goal.invariant-loop-rest
invariant-loop-rest l = has_colon (words l.rest) ≡ has_colon (words l.tokens)

abbrev pub decreases-loop-rest : goal.decreases-loop-rest
decreases-loop-rest l = length l.rest
