-- What is read in a context, and lists of what is read.
-- Manual: nothing; this is (own).
use Rattle.std.specs.Prelude.{List, Option, Result, map, ℕ, ◌∷◌}
use Rattle.occ_tree_grammar.specs.Expressions.Trees.{Expressions, Operand, expression_of, expressions, variable}
use Rattle.occ_tree_grammar.specs.declared.tree.expr.Expr.{Expr}
use Rattle.occ_tree_grammar.specs.declared.tree.line.OneOrMore.{OneOrMore}
use Rattle.occ_check_meaning.specs.Numbers as N
use Rattle.occ_check_meaning.specs.Scope.{Name, Names}
use Rattle.occ_check_lines.specs.View.{Unfolds, names_in, numbers_of}
use Rattle.occ_check_lines.specs.declared.context.Context.{Context}
use Rattle.occ_check_lines.specs.declared.fault.CheckFault.{CheckFault}
use Rattle.occ_check_lines.specs.declared.numbers.Numbers.{Numbers}

-- what a definition gives under the names of a context, in its line
abbrev pub read_in : {A : Type 0} → Context → (Names → ℕ → A) → A
read_in c word = word (names_in c.scope) c.line

-- what something in a line unfolds to, under names and behind so many nodes
abbrev pub OfLine : Type 0 → Type 0
OfLine A = Names → (line depth : ℕ) → N.Numbers → Option (A × N.Numbers)

-- what is answered is what something in a line unfolds to in a context
abbrev pub ReadsIn : {X Y : Type 0} → (X → Y) → Result X CheckFault → Context → (old new : Numbers) → ℕ → OfLine Y → Type 0
ReadsIn view result c old new depth part = Unfolds view result new (part (names_in c.scope) c.line depth (numbers_of old))

-- one or more of something, in order
abbrev pub all_of : {A B : Type 0} → (A → B) → OneOrMore A → List B
all_of view xs = view xs.first ∷ map view xs.others.items

-- the names of a declaration, in order
abbrev pub names_listed : OneOrMore Name → List Name
names_listed xs = xs.first ∷ xs.others.items

-- expressions in a row
abbrev pub trees_of : List Expr → Expressions
trees_of es = expressions (map expression_of es)

-- a name with its subscripts
abbrev pub name_under : Name → List Expr → Operand
name_under x es = variable x (trees_of es)
