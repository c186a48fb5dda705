-- The guards of an ALT: what is checked and counted of each, and the arm that it makes.
-- Manual: combining processes.
use Rattle.std.specs.Prelude.{Option, Some, option_map, ℕ}
use Rattle.occ_tree_grammar.specs.Lines.Trees as L
use Rattle.occ_tree_grammar.specs.Many.{◌>>=◌}
use Rattle.occ_tree_grammar.specs.Expressions.Trees.{Expression, expression_of as tree_of}
use Rattle.occ_tree_grammar.specs.Lines.Trees.{Var}
use Rattle.occ_tree_grammar.specs.Lines.Views.{input_of, var_of}
use Rattle.occ_tree_grammar.specs.declared.tree.expr.Expr.{Expr}
use Rattle.occ_tree_grammar.specs.declared.tree.line.Input.{Input}
use Rattle.occ_tree_grammar.specs.declared.tree.line.VariantGuard.{VariantGuard}
use Rattle.occ_term.specs.Sizes as Sizes
use Rattle.occ_term.specs.Terms as T
use Rattle.occ_term.specs.Sizes.{size_of_place, size_of_test}
use Rattle.occ_term.specs.declared.protocol.Protocol.{Protocol}
use Rattle.occ_term.specs.declared.expression.Place.{Place}
use Rattle.occ_term.specs.declared.expression.TermExpr.{TermExpr}
use Rattle.occ_term.specs.View.{expression_of, place_of, test_of as boolean_of}
use Rattle.occ_check_meaning.specs.Actions as A
use Rattle.occ_check_meaning.specs.Items.{channel_of}
use Rattle.occ_check_meaning.specs.Actions.{Listed, received, size_of_list, test_of, with_tags}
use Rattle.occ_check_meaning.specs.Numbers.{Numbers, room}
use Rattle.occ_check_meaning.specs.Scope.{Names}
use Rattle.occ_check_lines.specs.Reading.{OfLine}
use Rattle.occ_check_lines.specs.Action.{listed_of}
use Rattle.occ_check_lines.specs.declared.action.Listed.{Listed as ListedCode}
use Rattle.occ_check.specs.declared.guards.ArmGuard.TheVariants as guards
use Rattle.occ_check.specs.declared.guards.ArmGuard.{ArmGuard}
use Rattle.occ_check.specs.declared.guards.Guarded.{Guarded}

-- the sizes of what a guard with an input, and one with an input of variants, head
abbrev pub guard_size : Option T.Expression → T.Place → Listed → Sizes.Size
guard_size e c l = Sizes.with_node (Sizes.together (size_of_test e) (Sizes.together (size_of_place c) (size_of_list l)))

abbrev pub variants_guard_size : Option T.Expression → T.Place → Sizes.Size
variants_guard_size e c = Sizes.with_node (Sizes.together (size_of_test e) (size_of_place c))

abbrev pub guarding : Names → ℕ → ℕ → Option Expression → L.Input → Numbers → Option ((Option T.Expression × (T.Place × Listed)) × Numbers)
guarding ns line depth test i n = do
  e ← test_of ns line test
  c ← received ns line i
  m ← room depth (guard_size e c.0 c.1) n
  Some ((e, c), m)

abbrev pub guarding_variants : Names → ℕ → ℕ → Option Expression → Var → Numbers → Option ((Option T.Expression × (Protocol × T.Place)) × Numbers)
guarding_variants ns line depth test v n = do
  e ← test_of ns line test
  c ← channel_of ns line v
  p ← with_tags c.0
  m ← room depth (variants_guard_size e c.1) n
  Some ((e, (p, c.1)), m)

-- ---- of the code

abbrev pub a_guard : Option Expr → Input → OfLine (Option T.Expression × (T.Place × Listed))
a_guard test i ns line depth n = guarding ns line depth (option_map tree_of test) (input_of i) n

abbrev pub a_tag_guard : VariantGuard → OfLine (Option T.Expression × (Protocol × T.Place))
a_tag_guard g ns line depth n = guarding_variants ns line depth (option_map tree_of g.condition) (var_of g.channel) n

abbrev pub guarded_size : Option TermExpr → Place → ListedCode → Sizes.Size
guarded_size test channel listed = guard_size (boolean_of test) (place_of channel) (listed_of listed)

abbrev pub tag_guard_size : Option TermExpr → Place → Sizes.Size
tag_guard_size test channel = variants_guard_size (boolean_of test) (place_of channel)

-- a guard with an input, as the definitions have it
abbrev pub guarded_of : Guarded → Option T.Expression × (T.Place × A.Listed)
guarded_of g = (boolean_of g.test, (place_of g.channel, listed_of g.listed))

-- and one with an input of variants
abbrev pub tag_guard_of : Option TermExpr × Protocol × Place → Option T.Expression × (Protocol × T.Place)
tag_guard_of g = (boolean_of g.0, (g.1, place_of g.2))

-- an arm with an input, and with a guard in one line
abbrev pub input_guarded : Guarded → T.Term → T.Arms
input_guarded g t = T.input_arm (boolean_of g.test) (place_of g.channel) (A.as_reception (listed_of g.listed) t) T.no_arms

abbrev pub guarded_by : ArmGuard → T.Term → T.Arms
guarded_by (guards.Input g) t = input_guarded g t
guarded_by (guards.Skip e) t = T.skip_arm (expression_of e) t T.no_arms
