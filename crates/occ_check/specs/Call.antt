-- What calls of the code work with, as the definitions have it.
-- Manual: nothing; this is (own).
use Rattle.std.specs.Borrow.{Bor}
use Rattle.std.specs.Prelude.{Result, Ok, Err, Option, Some, None, List, [], map, option_map, ◌≡◌, ◌&&◌, ◌∷◌, ℕ, ℤ, Vec}
use Rattle.std.specs.Global.{Global}
use Rattle.std.specs.declared.boxed.Box.{Box}
use Rattle.occ_term.specs.View.{declarations_of, expression_of as term_of_expression, subscripts}
use Rattle.occ_term.specs.declared.expression.TermExpr.{TermExpr}
use Rattle.occ_tree_grammar.specs.Expressions.Trees.{Expressions, expression_of}
use Rattle.occ_tree_grammar.specs.Lines.Trees as L
use Rattle.occ_tree_grammar.specs.Lines.Views as lines
use Rattle.occ_tree_grammar.specs.declared.tree.expr.Expr.{Expr}
use Rattle.occ_tree_grammar.specs.declared.tree.line.Carried.{Carried as CarriedTree}
use Rattle.occ_tree_grammar.specs.declared.tree.line.Formal.{Formal}
use Rattle.occ_tree_grammar.specs.declared.tree.line.Formals.{Formals}
use Rattle.occ_tree_grammar.specs.declared.tree.line.OneOrMore.{OneOrMore}
use Rattle.occ_tree_grammar.specs.declared.tree.line.Size.{Size}
use Rattle.occ_tree_grammar.specs.declared.tree.line.Spec.{Spec}
use Rattle.occ_tree_grammar.specs.Many.{◌>>=◌}
use Rattle.occ_term.specs.declared.primitive.Primitive.{Primitive}
use Rattle.occ_check_meaning.specs.Constants.{constant}
use Rattle.occ_check_meaning.specs.Scope.{Name}
use Rattle.occ_check_meaning.specs.Scope as S
use Rattle.occ_check_meaning.specs.Declarations as D
use Rattle.occ_check_meaning.specs.Expressions.{joined}
use Rattle.occ_check_meaning.specs.Operators.{is_same_type}
use Rattle.occ_check_meaning.specs.Types.{Open, takes_sizes}
use Rattle.occ_check_meaning.specs.Calls as C
use Rattle.occ_check_meaning.specs.Numbers as N
use Rattle.occ_term.specs.Terms as T
use Rattle.occ_check_lines.specs.Reading.{all_of, read_in, trees_of}
use Rattle.occ_check_lines.specs.View.{Refuses, carried_of, evaluated_of, numbers_of, stretch_of, subscripts_of}
use Rattle.occ_check_lines.specs.declared.context.Context.{Context}
use Rattle.occ_check_lines.specs.declared.fault.CheckFault.{CheckFault}
use Rattle.occ_check_lines.specs.declared.known.Carried.{Carried}
use Rattle.occ_check_lines.specs.declared.known.Evaluated.{Evaluated}
use Rattle.occ_check_lines.specs.declared.known.Stretch.{Stretch}
use Rattle.occ_check_lines.specs.declared.numbers.Numbers.{Numbers}
use Rattle.occ_check_lines.specs.Declaration.{Opens}
use Rattle.occ_check_lines.specs.Typing.{open_sizes_in}
use Rattle.occ_check_lines.specs.declared.declaration.Opened.{Opened}
use Rattle.occ_check.specs.declared.formals.Wanted.{Wanted}
use Rattle.occ_check.specs.declared.formals.Wanted.TheVariants as wanteds
use Rattle.occ_check.specs.declared.formals.WantedFormal.{WantedFormal}
use Rattle.occ_check.specs.declared.given.Given.{Given}

abbrev pub wanted_of : Wanted → C.Wanted
wanted_of (wanteds.Value sizes type) = C.wants_value sizes type
wanted_of (wanteds.Variable sizes type) = C.wants_variable sizes type
wanted_of (wanteds.Channels sizes c) = C.wants_channels sizes (carried_of c)

abbrev pub formal_of : WantedFormal → Name × C.Wanted
formal_of f = (f.name, wanted_of f.wanted)

abbrev pub formals_of : List WantedFormal → List (Name × C.Wanted)
formals_of fs = map formal_of fs

abbrev pub all_formals : {A : Type 0} → Vec WantedFormal A → List (Name × C.Wanted)
all_formals fs = formals_of fs.items

abbrev pub given_of : Given → Numbers → C.Evaluated
given_of g n = C.evaluated (subscripts (map evaluated_of g.subscripts)) g.left (declarations_of g.heads) (numbers_of n)

-- subscripts that are evaluated are those of the definition, and so are the numbers then
abbrev pub Evaluates : Result Given CheckFault → Numbers → Option C.Evaluated → Type 0
Evaluates (Ok g) after given = given ≡ Some (given_of g after)
Evaluates (Err e) after given = Refuses e given

-- .. from the numbers before
abbrev pub EvaluatesFrom : Result Given CheckFault → (old new : Numbers) → (N.Numbers → Option C.Evaluated) → Type 0
EvaluatesFrom result old new part = Evaluates result new (part (numbers_of old))

-- a subscript, and one that is no constant
abbrev pub subscript_evaluated : Name → (depth : ℕ) → ℕ → TermExpr → N.Numbers → Option C.Evaluated
subscript_evaluated x depth size e = C.one_evaluated x depth size (term_of_expression e) (constant (term_of_expression e))

abbrev pub cell_evaluated : Name → (depth : ℕ) → ℕ → TermExpr → N.Numbers → Option C.Evaluated
cell_evaluated x depth size e = C.one_evaluated x depth size (term_of_expression e) None

-- subscripts of an array of these sizes
abbrev pub each_evaluated : Name → (depth : ℕ) → List TermExpr → List ℕ → N.Numbers → Option C.Evaluated
each_evaluated x depth es sizes = C.all_evaluated x depth (subscripts_of es) sizes

-- a constant subscript of an array of this size
abbrev pub one_constant : ℕ → ℤ → N.Numbers → Option C.Evaluated
one_constant size v n = C.one_evaluated [] 0 size (T.Constant v) (Some v) n

-- a stretch under these subscripts
abbrev pub part_under : S.Stretch → T.Subscripts → List ℕ → S.Stretch
part_under r subs left = record r { subscripts = joined r.subscripts subs; left = left }

abbrev pub stretch_under : Stretch → List Evaluated → List ℕ → S.Stretch
stretch_under r es left = part_under (stretch_of r) (subscripts (map evaluated_of es)) left

-- what a formal stands for is what the definition gives of subscripts that are evaluated, whatever the numbers are
abbrev pub OpensGiven : Result Opened CheckFault → Given → (C.Evaluated → Option D.Opened) → Type 0
OpensGiven result g part = (n : Numbers) → Opens result n (part (given_of g n))

-- .. where it is a variable, or channels
abbrev pub variable_bound : Name → Open → Primitive → Primitive → Stretch → C.Evaluated → Option D.Opened
variable_bound x sizes type own r a = S.keep (is_same_type own type && takes_sizes sizes a.left) (D.one_name x (S.some_cells S.assignable own (C.part_of (stretch_of r) a)) a.heads a.numbers)

abbrev pub channels_bound : Name → Open → Carried → Carried → Stretch → C.Evaluated → Option D.Opened
channels_bound x sizes c own r a =
    S.keep (C.is_same_carried (carried_of c) (carried_of own) && takes_sizes sizes a.left) (D.one_name x (S.some_channels (carried_of own) (C.part_of (stretch_of r) a)) a.heads a.numbers)

abbrev pub named_formal : Name → Option C.Wanted → Option (Name × C.Wanted)
named_formal x given = given >>= λ w. Some (x, w)

-- the formals of a procedure, whether a name stands twice or not
abbrev pub listed_formals : S.Names → ℕ → L.Spec → Name → List L.Formal → Option (List (Name × C.Wanted))
listed_formals ns line s x fs = do
  w ← C.wanted ns line s
  others ← C.other_formals ns line s fs
  Some ((x, w) ∷ others)

-- ---- formals and actuals in a context: each as the definition has it that its word is named after, of what the code read

abbrev pub wanted_in : Context → Spec → Option C.Wanted
wanted_in c s = read_in c C.wanted (lines.spec_of s)

-- .. where it wants a value, a variable or channels of these sizes
abbrev pub wants_value_in : Context → List Size → Primitive → Option C.Wanted
wants_value_in c sizes type = open_sizes_in c sizes >>= λ known. Some (C.wants_value known type)

abbrev pub wants_variable_in : Context → List Size → Primitive → Option C.Wanted
wants_variable_in c sizes type = open_sizes_in c sizes >>= λ known. Some (C.wants_variable known type)

abbrev pub wants_channels_in : Context → List Size → CarriedTree → Option C.Wanted
wants_channels_in c sizes carried = read_in c C.wanted (L.by_channel (map lines.size_of sizes) (lines.carried_of carried))

-- of a PROC, where it has some, and behind one of this spec
abbrev pub formals_in : Context → Option (Box Formals Global) → Option (List (Name × C.Wanted))
formals_in c fs = read_in c C.formals_of (lines.formals_of fs)

abbrev pub some_formals_in : Context → Formals → Option (List (Name × C.Wanted))
some_formals_in c fs = read_in c C.formals_of (lines.some_formals_of fs)

abbrev pub other_formals_in : Context → Spec → List Formal → Option (List (Name × C.Wanted))
other_formals_in c s fs = read_in c C.other_formals (lines.spec_of s) (map lines.formal_of fs)

-- the spec of a formal behind one of this spec
abbrev pub following_spec : Spec → Option Spec → L.Spec
following_spec before own = C.spec_after (lines.spec_of before) (option_map lines.spec_of own)

-- whether a name stands twice or not
abbrev pub listed_formals_in : Context → Formals → Option (List (Name × C.Wanted))
listed_formals_in c f = read_in c listed_formals (lines.spec_of f.spec) f.name (map lines.formal_of f.others.items)

-- what one formal stands for under its actual, where the Locals stand at a depth
abbrev pub given_in : Context → (depth : ℕ) → Name → C.Wanted → Expr → Numbers → Option D.Opened
given_in c depth x w e n = read_in c C.actual_of depth x w (expression_of e) (numbers_of n)

abbrev pub actual_in : Context → (depth : ℕ) → WantedFormal → Expr → Numbers → Option D.Opened
actual_in c depth f e n = given_in c depth f.name (wanted_of f.wanted) e n

-- .. where it wants a value, a variable or channels
abbrev pub GetsValue : Result Opened CheckFault → Context → (old new : Numbers) → (depth : ℕ) → Name → Open → Primitive → Expr → Type 0
GetsValue result c old new depth x sizes type e = Opens result new (given_in c depth x (C.wants_value sizes type) e old)

abbrev pub GetsVariable : Result Opened CheckFault → Context → (old new : Numbers) → (depth : ℕ) → Name → Open → Primitive → Expr → Type 0
GetsVariable result c old new depth x sizes type e = Opens result new (given_in c depth x (C.wants_variable sizes type) e old)

abbrev pub GetsChannels : Result Opened CheckFault → Context → (old new : Numbers) → (depth : ℕ) → Name → Open → Carried → Expr → Type 0
GetsChannels result c old new depth x sizes carried e = Opens result new (given_in c depth x (C.wants_channels sizes (carried_of carried)) e old)

-- what all stand for: under a list of actuals, under one or more, and under those of a call
abbrev pub all_actuals_in : Context → (depth : ℕ) → List WantedFormal → List Expr → Numbers → Option D.Opened
all_actuals_in c depth fs es n = read_in c C.all_actuals depth (formals_of fs) (map expression_of es) (numbers_of n)

abbrev pub some_actuals_in : Context → (depth : ℕ) → List WantedFormal → OneOrMore Expr → Numbers → Option D.Opened
some_actuals_in c depth fs es n = read_in c C.all_actuals depth (formals_of fs) (all_of expression_of es) (numbers_of n)

abbrev pub actuals_in : Context → (depth : ℕ) → List WantedFormal → Option (OneOrMore Expr) → Numbers → Option D.Opened
actuals_in c depth fs es n = read_in c C.all_actuals depth (formals_of fs) (C.actual_list (lines.actuals_of es)) (numbers_of n)

-- .. and no two of them share a cell
abbrev pub bound_in : Context → (depth : ℕ) → List WantedFormal → Option (OneOrMore Expr) → Numbers → Option D.Opened
bound_in c depth fs es n = read_in c C.bound depth (formals_of fs) (lines.actuals_of es) (numbers_of n)

-- a name and its subscripts, as the code answers them
abbrev pub name_with : Bor (List ℕ) × Bor (List Expr) → Name × Expressions
name_with x = (x.0.now, trees_of x.1.now)
