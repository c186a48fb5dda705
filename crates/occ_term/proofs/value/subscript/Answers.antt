use Rattle.std.proofs.Common.{rules}
use Rattle.occ_term.proofs.value.subscript.Goals as goal

pub returns-then-v-from-clause-value : goal.returns-then-v-from-clause-value
returns-then-v-from-clause-value c = search rules

pub returns-then-v-from-clause-within : goal.returns-then-v-from-clause-within
returns-then-v-from-clause-within c = search rules
