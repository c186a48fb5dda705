use Rattle.occ_check_meaning.proofs.OrderedProgram as Ordered
use Rattle.occ_check_meaning.proofs.well_formed.cells_in_order.Goals as goal

pub returns : goal.returns
returns c = λ items t m u. Ordered.cells_in_order u
