use Rattle.std.proofs.Common.{◌≡◌, ◌++◌, drop}
use Rattle.occ_usage.specs.Indexes.{furthest}
use Rattle.occ_usage.proofs.index.ends_of.Given as goal

abbrev pub invariant-loop-span : goal.invariant-loop-span
invariant-loop-span l = l.ends.items ++ furthest l.furthest (drop l.span-index l.spans) ≡ furthest 0 l.spans
