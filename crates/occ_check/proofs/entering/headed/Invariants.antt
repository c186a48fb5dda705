use Rattle.std.proofs.Common.{length}
use Rattle.occ_term.specs.View.{term_of}
use Rattle.occ_check.proofs.Heading.{Heads}
use Rattle.occ_check.proofs.entering.headed.Given as goal

abbrev pub invariant-backwards : goal.invariant-backwards
invariant-backwards l = Heads l.fn.heads (term_of l.fn.term) l.before l.parts.items

abbrev pub decreases-backwards : goal.decreases-backwards
decreases-backwards l = length l.before
