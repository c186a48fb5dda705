use Rattle.occ_usage.specs.Noted.{uses_in}
use Rattle.occ_usage.proofs.UseSets.{Left}
use Rattle.occ_usage.proofs.noted.Noted.extend.Given as goal

abbrev pub invariant-loop-one : goal.invariant-loop-one
invariant-loop-one l = Left uses_in l.list l.one-index l.initial.self.uses l.self.uses
