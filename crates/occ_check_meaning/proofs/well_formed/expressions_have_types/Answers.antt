use Rattle.occ_check_meaning.proofs.TypedExpressions.{typed_has}
use Rattle.occ_check_meaning.proofs.well_formed.expressions_have_types.Goals as goal

pub returns : goal.returns
returns c = λ d ns line e t h g. typed_has d ns h line e t g
