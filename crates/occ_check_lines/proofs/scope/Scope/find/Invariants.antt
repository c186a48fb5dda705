use Rattle.std.proofs.Common.{◌≡◌, ◌++◌, List, length}
use Rattle.occ_check_meaning.specs.Unfolding.{found}
use Rattle.occ_check_lines.specs.View.{scope_of}
use Rattle.occ_check_lines.specs.declared.scope.Block.{Block}
use Rattle.occ_check_lines.proofs.scope.Scope.find.Given as goal

abbrev pub decreases-outwards : goal.decreases-outwards
decreases-outwards l = length l.place.blocks.now

abbrev pub invariant-outwards : goal.invariant-outwards
invariant-outwards l =
    (found (scope_of l.self) l.name ≡ found (scope_of l.place) l.name) × ((rest : List Block) × (l.self.blocks.now ≡ l.place.blocks.now ++ rest))
