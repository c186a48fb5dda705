use Rattle.std.proofs.Common.{rules, ◌≡◌, ◌∙◌, ◌∷◌, [], reverse, arith}
use Rattle.occ_check_meaning.specs.Scope.{known}
use Rattle.occ_check_lines.specs.View.{innermost, known_of}
use Rattle.occ_check.proofs.EnteringScopes.{next_name, no_name}
use Rattle.occ_check.proofs.blocks.Blocks.enter.Goals as goal

pub names-preserved : goal.names-preserved
names-preserved c =
    let one : innermost (reverse c.declare.new.self.blocks.items) ≡ (c.in-Some.named.name, known (known_of c.in-Some.named.known)) ∷ innermost (reverse c.names.self.blocks.items) = search rules in (
      next_name c.names.left.items c.pop.new.self.items c.in-Some.named (innermost (reverse c.names.self.blocks.items)) (innermost (reverse c.declare.new.self.blocks.items)) c.in-Some.ensures.items one ∙ c.names.invariant.0,
      λ n h. c.in_ok-declare.ensures.kept n (omega (arith, h, c.names.invariant.2)) ∙ c.names.invariant.1 n h,
      omega (arith, c.in_ok-declare.ensures.more, c.names.invariant.2),
    )

pub returns-clause-scope : goal.returns-clause-scope
returns-clause-scope c =
    let none : c.names.left.items ≡ [] = search rules in
    no_name c.names.left.items (innermost (reverse c.names.self.blocks.items)) _ none c.names.invariant.0
