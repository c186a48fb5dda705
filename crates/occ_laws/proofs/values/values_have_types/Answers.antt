use Rattle.occ_term.proofs.TypedValues as typed
use Rattle.occ_laws.proofs.values.values_have_types.Goals as goal

pub returns : goal.returns
returns c = typed.values_have_types
