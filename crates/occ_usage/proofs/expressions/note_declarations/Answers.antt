use Rattle.std.proofs.Common.{refl}
use Rattle.occ_term.specs.Uses.{uses_of_declaration}
use Rattle.occ_term.specs.View.{declaration_of}
use Rattle.occ_usage.proofs.UseSets.{left_next, left_none}
use Rattle.occ_usage.proofs.expressions.note_declarations.Goals as goal

pub returns : goal.returns
returns c = left_none _ refl _ _ _ _ c.loop-declaration-test.false c.loop-declaration.invariant

pub loop-declaration-preserved : goal.loop-declaration-preserved
loop-declaration-preserved c =
    left_next _ (λ x. uses_of_declaration (declaration_of x)) (λ x xs. refl) _ _ _ _ _ _ c.loop-declaration-test.true c.declaration-item.is c.loop-declaration.invariant c.in_ok-note_declaration.ensures
