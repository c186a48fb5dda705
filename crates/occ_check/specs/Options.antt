-- The options of a CASE: what is checked and counted before what stands under them, and what is left of one that is opened.
-- Manual: combining processes.
use Rattle.std.specs.Prelude.{List, Option, Some, Result, Ok, Err, map, ℕ, ℤ, ◌≡◌}
use Rattle.occ_tree_grammar.specs.Processes.Views.{process_of, selection_of}
use Rattle.occ_tree_grammar.specs.declared.tree.process.Process.{Process}
use Rattle.occ_tree_grammar.specs.declared.tree.process.Selection.{Selection}
use Rattle.occ_tree_grammar.specs.Many.{◌>>=◌}
use Rattle.occ_tree_grammar.specs.declared.tree.process.Decl.{Decl}
use Rattle.occ_tree_grammar.specs.Expressions.Trees.{Expression, expression_of}
use Rattle.occ_tree_grammar.specs.declared.tree.expr.Expr.{Expr}
use Rattle.occ_tree_grammar.specs.declared.tree.line.OneOrMore.{OneOrMore}
use Rattle.occ_term.specs.Terms as T
use Rattle.occ_term.specs.Sizes as Sizes
use Rattle.occ_term.specs.View.{declarations_of}
use Rattle.occ_term.specs.declared.primitive.Primitive.{Primitive}
use Rattle.occ_term.specs.Sizes.{size_of_constants, size_of_expression}
use Rattle.occ_term.specs.Terms.{Options}
use Rattle.occ_check_meaning.specs.Numbers as N
use Rattle.occ_check_meaning.specs.Actions as A
use Rattle.occ_check_meaning.specs.Performing as P
use Rattle.occ_check_meaning.specs.Performing.{Under}
use Rattle.occ_check_meaning.specs.Recursion.{unfolded, all_declared, option_unfolded}
use Rattle.occ_check_meaning.specs.Actions.{choosing, selector}
use Rattle.occ_check_meaning.specs.Expressions.{constant_as}
use Rattle.occ_check_meaning.specs.Numbers.{room}
use Rattle.occ_check_meaning.specs.Scope.{Names, each_of}
use Rattle.occ_check_lines.specs.Reading.{OfLine, all_of, read_in}
use Rattle.occ_check_lines.specs.declared.context.Context.{Context}
use Rattle.occ_check_lines.specs.declared.numbers.Numbers.{Numbers}
use Rattle.occ_check_lines.specs.View.{numbers_of, Refuses}
use Rattle.occ_check_lines.specs.declared.fault.CheckFault.{CheckFault}
use Rattle.occ_check_lines.specs.Action.{chosen_of}
use Rattle.occ_check_lines.specs.declared.action.Chosen.{Chosen}
use Rattle.occ_check.specs.declared.here.Here.{Here}
use Rattle.occ_check.specs.declared.unfolder.Unfolder.{Unfolder}
use Rattle.occ_check.specs.Weights.{decl_nodes}
use Rattle.occ_check.specs.Progress.{body_weight, counted, meant_at, names_there, node_weight}
use Rattle.occ_check.specs.Opened.{OpensAt, body_unfolded, case_options, put}
use Rattle.occ_check.specs.declared.options.OptionHead.TheVariants as options
use Rattle.occ_check.specs.declared.options.OpenedOption.{OpenedOption}
use Rattle.occ_check.specs.declared.options.OptionHead.{OptionHead}

-- the selector of a CASE, and the node that it heads
abbrev pub selecting : Names → ℕ → ℕ → Expression → N.Numbers → Option ((Primitive × T.Expression) × N.Numbers)
selecting ns line depth e n = do
  s ← selector ns line e
  m ← room depth (Sizes.with_node (size_of_expression s.1)) n
  Some (s, m)

abbrev pub a_selector : Expr → OfLine (Primitive × T.Expression)
a_selector e ns line depth n = selecting ns line depth (expression_of e) n

-- a CASE
abbrev pub case_of : ℕ → Expr → List Selection → Under T.Term
case_of line e os = P.selected line (expression_of e) (case_options os)

-- ---- the constants of an option, with what is chosen then and their nodes

abbrev pub listing : List ℤ → ℕ → A.Chosen → N.Numbers → Option ((List ℤ × A.Chosen) × N.Numbers)
listing vs depth before n = do
  c ← choosing vs before
  m ← room depth (size_of_constants vs) n
  Some ((vs, c), m)

abbrev pub choosing_values : Names → ℕ → ℕ → Primitive → List Expression → A.Chosen → N.Numbers → Option ((List ℤ × A.Chosen) × N.Numbers)
choosing_values ns line depth type es before n = do
  vs ← each_of (constant_as ns line type) es
  listing vs depth before n

-- constants, with what is chosen then
abbrev pub Lists : Result (List ℤ) CheckFault → Chosen → Numbers → Option ((List ℤ × A.Chosen) × N.Numbers) → Type 0
Lists (Ok vs) chosen after given = given ≡ Some ((vs, chosen_of chosen), numbers_of after)
Lists (Err e) chosen after given = Refuses e given

-- .. from what was chosen before, and where they stand
abbrev pub ListsFrom : Result (List ℤ) CheckFault → (before chosen : Chosen) → (old new : Numbers) → (A.Chosen → N.Numbers → Option ((List ℤ × A.Chosen) × N.Numbers)) → Type 0
ListsFrom result before chosen old new part = Lists result chosen new (part (chosen_of before) (numbers_of old))

abbrev pub ListsAt : Result (List ℤ) CheckFault → (before chosen : Chosen) → (old new : Unfolder) → Here → Primitive → OneOrMore Expr → Type 0
ListsAt result before chosen old new here type es =
    Lists result chosen new.numbers (choosing_values (names_there old here.at) here.line here.depth type (all_of expression_of es) (chosen_of before) (counted old))

-- expressions that are constants of the type
abbrev pub constants_in : Context → Primitive → List Expr → Option (List ℤ)
constants_in c type es = each_of (read_in c constant_as type) (map expression_of es)

abbrev pub all_constants_in : Context → Primitive → OneOrMore Expr → Option (List ℤ)
all_constants_in c type es = each_of (read_in c constant_as type) (all_of expression_of es)

-- ---- options, by their parts

abbrev pub option_with_values : ℕ → OneOrMore Expr → List Decl → Process → Primitive → A.Chosen → Under (Options × A.Chosen)
option_with_values line es ds p = P.option_of line (all_of expression_of es) (all_declared (decl_nodes ds)) (body_unfolded p)

abbrev pub option_with_else : List Decl → Process → A.Chosen → Under (Options × A.Chosen)
option_with_else ds p = P.else_of (all_declared (decl_nodes ds)) (body_unfolded p)

-- ---- an option that is opened

abbrev pub option_with : OptionHead → T.Term → T.Options
option_with (options.Among vs heads) t = T.or_option vs (declarations_of heads) t T.no_options
option_with (options.Otherwise heads) t = T.or_else (declarations_of heads) t T.no_options

-- with what is chosen then
abbrev pub option_left : Chosen → Unfolder → OpenedOption → Option ((T.Options × A.Chosen) × N.Numbers)
option_left chosen u o = put (λ t. (option_with o.head t, chosen_of chosen)) (unfolded (process_of o.body.now) (meant_at u o.here.at) o.here.depth (counted u))

-- what is left of an option of these parts, of ELSE, and of an option
abbrev pub OpensValues : Result OpenedOption CheckFault → (before chosen : Chosen) → (old new : Unfolder) → Here → OneOrMore Expr → List Decl → Process → Primitive → Type 0
OpensValues result before chosen old new here es ds p type = OpensAt (option_left chosen) result old new here (option_with_values here.line es ds p type (chosen_of before))

abbrev pub OpensElse : Result OpenedOption CheckFault → (before chosen : Chosen) → (old new : Unfolder) → Here → List Decl → Process → Type 0
OpensElse result before chosen old new here ds p = OpensAt (option_left chosen) result old new here (option_with_else ds p (chosen_of before))

abbrev pub OpensOption : Result OpenedOption CheckFault → (before chosen : Chosen) → (old new : Unfolder) → Here → Selection → Primitive → Type 0
OpensOption result before chosen old new here s type = OpensAt (option_left chosen) result old new here (option_unfolded (selection_of s) type (chosen_of before))

abbrev pub option_weight : Unfolder → OpenedOption → ℕ
option_weight u o = body_weight u o.here.at o.body.now

-- how large an option is with what is in scope there
abbrev pub whole_option : Unfolder → Here → Selection → ℕ
whole_option u here s = node_weight u here.at (selection_of s)
