-- Small readings, computed.
use Rattle.std.proofs.Common.{◌≡◌, refl, ℕ, List, [], ◌∷◌, Some}
use Rattle.occ_text.specs.declared.token.Key.TheVariants as k
use Rattle.occ_text.specs.declared.token.Sym.TheVariants as s
use Rattle.occ_text.specs.Words.{Word, key, name, mark}
use Rattle.occ_tree_grammar.specs.declared.tree.expr.Dyadic.TheVariants as dyadics
use Rattle.occ_tree_grammar.specs.declared.tree.expr.Logic.TheVariants as logics
use Rattle.occ_tree_grammar.specs.Expressions.Trees.{two, chain, variable, operands, expressions}
use Rattle.occ_tree_grammar.specs.Expressions.Reading.{expression_at, expression_with, operand_with}
use Rattle.occ_tree_grammar.specs.Many.{many}

-- `a + b * c` is read as far as `a + b`
two_operators : (a b c : List ℕ) → expression_at 1 (name a ∷ mark s.Plus ∷ name b ∷ mark s.Times ∷ name c ∷ []) ≡ Some (two (variable a (expressions [])) dyadics.Add (variable b (expressions [])), mark s.Times ∷ name c ∷ [])
unfolding expression_at expression_with operand_with many
two_operators a b c = refl

-- a chain of AND ends where OR stands
mixed_chain : (a b c : List ℕ) → expression_at 1 (name a ∷ key k.And ∷ name b ∷ key k.Or ∷ name c ∷ []) ≡ Some (chain logics.And (variable a (expressions [])) (variable b (expressions [])) (operands []), key k.Or ∷ name c ∷ [])
unfolding expression_at expression_with operand_with many
mixed_chain a b c = refl
