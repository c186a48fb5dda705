use Rattle.std.proofs.Common.{[], Some, refl, sym, subst, reverse}
use Rattle.std.proofs.lemmas.List.{append-nil}
use Rattle.occ_check_lines.specs.View.{scope_of, IsFound}
use Rattle.occ_check_lines.proofs.Scopes.{wider}
use Rattle.occ_check_lines.proofs.scope.Scope.find.Goals as goal

pub outwards-init : goal.outwards-init
outwards-init c = (refl, ([], sym (append-nil c.args.self.blocks.now)))

pub returns-in-Found-clause-found : goal.returns-in-Found-clause-found
returns-in-Found-clause-found c =
    wider c.args.self.blocks.now c.outwards.place.blocks.now c.outwards.invariant.1.0 c.args.name.now (scope_of c.args.self) c.in-Found.found c.outwards.invariant.1.1 c.in-Found.ensures.within
    (subst (λ t. IsFound (reverse c.outwards.place.blocks.now) t (Some c.in-Found.found)) (sym c.outwards.invariant.0) c.in-Found.ensures.found)
