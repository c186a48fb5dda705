use Rattle.occ_usage.proofs.Reaches.{Spans}
use Rattle.occ_usage.proofs.index.spans_of.Given as goal

abbrev pub invariant-loop-one : goal.invariant-loop-one
invariant-loop-one l = Spans l.kind l.uses l.one-index l.spans.items
