use Rattle.std.proofs.Common.{map}
use Rattle.occ_usage.specs.Noted.{all_uses, uses_in}
use Rattle.occ_usage.proofs.UseSets.{Left}
use Rattle.occ_usage.proofs.noted.Noted.extend_all.Given as goal

abbrev pub invariant-loop-list : goal.invariant-loop-list
invariant-loop-list l = Left (λ ls. all_uses (map uses_in ls)) l.lists l.list-index l.initial.self.uses l.self.uses
