-- Names at a position are those of the scope with meanings.
use Rattle.std.proofs.Common.{◌≡◌, ◌∙◌, List, reverse, sym}
use Rattle.occ_check_meaning.specs.Scope.{names_of}
use Rattle.occ_check_meaning.specs.Meant.{meant}
use Rattle.occ_check_meaning.proofs.Names.{same_names}
use Rattle.occ_check_lines.specs.View.{names_in, scope_in}
use Rattle.occ_check_lines.specs.declared.scope.Block.{Block}
use Rattle.occ_check_lines.specs.declared.scope.Position.{Position}
use Rattle.occ_check_lines.specs.declared.scope.Scope.{Scope}

pub names_there : (s : Scope) (fs : List Block) (at : Position) → s.blocks.now ≡ fs → s.at ≡ at → names_in s ≡ names_of (meant (scope_in (reverse fs) at))
names_there s fs at blocks place = (λ i. names_of (scope_in (reverse (blocks i)) (place i))) ∙ sym (same_names (scope_in (reverse fs) at))
