use Rattle.std.proofs.Common.{Some, reverse, subst, sym}
use Rattle.occ_check_meaning.specs.Unfolding.{found}
use Rattle.occ_check_lines.specs.View.{scope_of, IsFound}
use Rattle.occ_check_lines.proofs.Scopes.{known_found, no_known, nothing_found}
use Rattle.occ_check_lines.proofs.scope.Scope.known.Goals as goal

pub returns-in-Some-Known : goal.returns-in-Some-Known
returns-in-Some-Known c = sym (known_found (scope_of c.args.self) c.args.name.now _ _ (subst (λ f. IsFound (reverse c.args.self.blocks.now) (found (scope_of c.args.self) c.args.name.now) (Some f)) c.in-Some-Known.field-0-is c.in-Some-Known.ensures.found).1)

pub returns-in-Some-Procedure : goal.returns-in-Some-Procedure
returns-in-Some-Procedure c = sym (no_known (scope_of c.args.self) c.args.name.now _ _ (subst (λ f. IsFound (reverse c.args.self.blocks.now) (found (scope_of c.args.self) c.args.name.now) (Some f)) c.in-Some-Procedure.field-0-is c.in-Some-Procedure.ensures.found))

pub returns-in-None : goal.returns-in-None
returns-in-None c = sym (nothing_found (scope_of c.args.self) c.args.name.now c.in-None.ensures.found)
