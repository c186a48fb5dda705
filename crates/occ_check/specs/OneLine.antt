-- What stands in one line: what is checked and counted there, and what it is in the tree.
-- Manual: combining processes.
use Rattle.std.specs.Prelude.{List, Option, Result, Some, ℕ, map}
use Rattle.occ_tree_grammar.specs.Lines.Trees as L
use Rattle.occ_tree_grammar.specs.Many.{◌>>=◌}
use Rattle.occ_tree_grammar.specs.Expressions.Trees.{Expression, expression_of}
use Rattle.occ_tree_grammar.specs.Lines.Heads.{Action}
use Rattle.occ_tree_grammar.specs.Lines.Views.{actuals_of, input_of, out_of, var_of}
use Rattle.occ_tree_grammar.specs.declared.tree.expr.Expr.{Expr}
use Rattle.occ_tree_grammar.specs.declared.tree.line.Input.{Input}
use Rattle.occ_tree_grammar.specs.declared.tree.line.OneOrMore.{OneOrMore}
use Rattle.occ_tree_grammar.specs.Lines.Heads as heads
use Rattle.occ_tree_grammar.specs.declared.tree.line.Out.{Out}
use Rattle.occ_tree_grammar.specs.declared.tree.line.Var.{Var}
use Rattle.occ_term.specs.Sizes as Sizes
use Rattle.occ_term.specs.Terms as T
use Rattle.occ_term.specs.declared.primitive.Primitive.TheVariants.{Bool as Boolean}
use Rattle.occ_term.specs.Sizes.{size_of_expression}
use Rattle.occ_term.specs.View.{expression_of as expression_of_term, place_of, term_of}
use Rattle.occ_term.specs.declared.expression.Place.{Place}
use Rattle.occ_term.specs.declared.expression.TermExpr.{TermExpr}
use Rattle.occ_term.specs.declared.term.Term.{Term}
use Rattle.occ_check_meaning.specs.Actions.{as_input, assigned, output, received, taken}
use Rattle.occ_check_meaning.specs.Expressions.{typed_as}
use Rattle.occ_check_meaning.specs.Numbers.{Numbers, room}
use Rattle.occ_check_meaning.specs.Performing.{acted}
use Rattle.occ_check_meaning.specs.Scope.{Names}
use Rattle.occ_check_lines.specs.Reading.{OfLine, ReadsIn, all_of}
use Rattle.occ_check_lines.specs.View.{Unfolds, numbers_of}
use Rattle.occ_check_lines.specs.declared.context.Context.{Context}
use Rattle.occ_check_lines.specs.declared.fault.CheckFault.{CheckFault}
use Rattle.occ_check_lines.specs.declared.numbers.Numbers.{Numbers as CodeNumbers}
use Rattle.occ_check_lines.specs.Action.{listed_of}
use Rattle.occ_check_lines.specs.declared.action.Listed.{Listed}
use Rattle.occ_check.specs.Progress.{Reads, counted}
use Rattle.occ_check.specs.declared.here.Here.{Here}
use Rattle.occ_check.specs.declared.unfolder.Unfolder.{Unfolder}

-- an expression with the node that it heads
abbrev pub heading : T.Expression → ℕ → Numbers → Option (T.Expression × Numbers)
heading e depth n = room depth (Sizes.with_node (size_of_expression e)) n >>= λ m. Some (e, m)

-- a condition, and the node that it heads
abbrev pub tested : Names → ℕ → ℕ → Expression → Numbers → Option (T.Expression × Numbers)
tested ns line depth e n = do
  c ← typed_as ns line Boolean e
  m ← room depth (Sizes.with_node (size_of_expression c)) n
  Some (c, m)

-- ---- processes of one line, with their nodes

abbrev pub assigning : Names → ℕ → ℕ → List L.Var → List Expression → Numbers → Option (T.Term × Numbers)
assigning ns line depth vs es n = assigned ns line vs es >>= taken depth n

abbrev pub receiving : Names → ℕ → ℕ → L.Input → Numbers → Option (T.Term × Numbers)
receiving ns line depth i n = received ns line i >>= λ c. taken depth n (as_input c)

abbrev pub outputting : Names → ℕ → ℕ → L.Var → L.Out → List L.Out → Numbers → Option (T.Term × Numbers)
outputting ns line depth v o os n = output ns line v o os >>= taken depth n

-- ---- of the code's trees

-- a condition and processes of one line, as they unfold
abbrev pub a_condition : Expr → OfLine T.Expression
a_condition e ns line depth n = tested ns line depth (expression_of e) n

abbrev pub assignment : OneOrMore Var → OneOrMore Expr → OfLine T.Term
assignment vs es ns line depth n = assigning ns line depth (all_of var_of vs) (all_of expression_of es) n

abbrev pub an_input : Input → OfLine T.Term
an_input i ns line depth n = receiving ns line depth (input_of i) n

abbrev pub an_output : Var → OneOrMore Out → OfLine T.Term
an_output v os ns line depth n = outputting ns line depth (var_of v) (out_of os.first) (map out_of os.others.items) n

-- the term that is answered is what a line unfolds to in a context
abbrev pub UnfoldsIn : Result Term CheckFault → Context → (old new : CodeNumbers) → ℕ → OfLine T.Term → Type 0
UnfoldsIn result c old new depth part = ReadsIn term_of result c old new depth part

-- .. and where it stands what a process of one line unfolds to
abbrev pub PerformsAt : Result Term CheckFault → Unfolder → Unfolder → Here → Action → Type 0
PerformsAt result old new here a = Reads term_of result old new here (acted here.line a)

-- an expression is answered with the node that it heads
abbrev pub Heads : Result TermExpr CheckFault → (old new : CodeNumbers) → ℕ → TermExpr → Type 0
Heads result old new depth e = Unfolds expression_of_term result new (heading (expression_of_term e) depth (numbers_of old))

-- .. and a term that has no parts
abbrev pub HeadsTerm : Result Term CheckFault → Unfolder → Unfolder → ℕ → T.Term → Type 0
HeadsTerm result old new depth t = Unfolds term_of result new.numbers (taken depth (counted old) t)

-- how large an input is, with what it stores
abbrev pub received_size : Place → Listed → Sizes.Size
received_size channel listed = Sizes.size_of (as_input (place_of channel, listed_of listed))

abbrev pub input_action : Input → Action
input_action i = heads.input (input_of i)

abbrev pub call_action : List ℕ → Option (OneOrMore Expr) → Action
call_action f es = heads.call f (actuals_of es)

abbrev pub assignment_of : OneOrMore Var → OneOrMore Expr → Action
assignment_of vs es = heads.assign (var_of vs.first) (map var_of vs.others.items) (expression_of es.first) (map expression_of es.others.items)

abbrev pub output_of : Var → OneOrMore Out → Action
output_of v os = heads.output (var_of v) (out_of os.first) (map out_of os.others.items)
