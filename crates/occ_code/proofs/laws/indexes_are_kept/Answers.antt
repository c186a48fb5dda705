use Rattle.occ_code.proofs.LoopCounters as counters
use Rattle.occ_code.proofs.laws.indexes_are_kept.Goals as goal

pub returns : goal.returns
returns c = counters.value_kept
