use Rattle.occ_code.proofs.LoopCounters as counters
use Rattle.occ_code.proofs.laws.counters_are_apart.Goals as goal

pub returns : goal.returns
returns c = λ ns slot m. (counters.counter_set ns slot m, λ other h. counters.counter_kept ns slot other m h)
