-- What lines of one process unfold to in the code, as the definitions have it.
-- Manual: nothing; this is (own).
use Rattle.std.specs.Prelude.{Bool, List, Option, Result, Ok, Err, [], false, ◌&&◌, map, option_map, reverse, ◌≡◌, Some, ℕ, Vec}
use Rattle.indexmap.specs.IndexMap.{keys}
use Rattle.occ_tree_grammar.specs.Many.{◌>>=◌}
use Rattle.occ_tree_grammar.specs.Expressions.Trees.{Expression, expression_of}
use Rattle.occ_tree_grammar.specs.Lines.Trees as L
use Rattle.occ_tree_grammar.specs.Lines.Views as lines
use Rattle.occ_tree_grammar.specs.declared.tree.expr.Expr.{Expr}
use Rattle.occ_tree_grammar.specs.declared.tree.line.Input.{Input}
use Rattle.occ_tree_grammar.specs.declared.tree.line.OneOrMore.{OneOrMore}
use Rattle.occ_tree_grammar.specs.declared.tree.line.Out.{Out}
use Rattle.occ_tree_grammar.specs.declared.tree.line.Target.{Target as TargetTree}
use Rattle.occ_tree_grammar.specs.declared.tree.line.Var.{Var}
use Rattle.occ_term.specs.Terms as T
use Rattle.occ_term.specs.declared.primitive.Primitive.{Primitive}
use Rattle.occ_term.specs.declared.protocol.PartType.{PartType}
use Rattle.occ_term.specs.declared.protocol.PartType.TheVariants.{One as OneOf, Many as ManyOf, Counted as CountedOf}
use Rattle.occ_term.specs.declared.expression.Item.{Item}
use Rattle.occ_term.specs.declared.expression.Place.{Place}
use Rattle.occ_term.specs.declared.expression.Target.{Target}
use Rattle.occ_term.specs.declared.term.Term.{Term}
use Rattle.occ_term.specs.View.{items_of, place_of, targets_of, term_of}
use Rattle.occ_check_meaning.specs.Scope.{Names, Stretch, each_of}
use Rattle.occ_check_meaning.specs.Operators.{is_same_type}
use Rattle.occ_check_meaning.specs.Types.{are_same_sizes}
use Rattle.occ_check_meaning.specs.Expressions.{typed}
use Rattle.occ_check_meaning.specs.Items.{aim, aim_of, assigned_item, counted_aim, stored, target_of, variable_of}
use Rattle.occ_check_meaning.specs.Actions as A
use Rattle.occ_check_lines.specs.Reading.{all_of, read_in}
use Rattle.occ_check_lines.specs.View.{Refuses, part_of, typed_of, variable_part}
use Rattle.occ_check_lines.specs.declared.context.Context.{Context}
use Rattle.occ_check_lines.specs.declared.fault.CheckFault.{CheckFault}
use Rattle.occ_check_lines.specs.declared.action.Listed.{Listed}
use Rattle.occ_check_lines.specs.declared.action.Listed.TheVariants.{Plain, Tagged}
use Rattle.occ_check_lines.specs.declared.action.Chosen.{Chosen}
use Rattle.occ_check_lines.specs.declared.typed.Part.{Part}
use Rattle.occ_check_lines.specs.declared.typed.Typed.{Typed}
use Rattle.occ_check_lines.specs.Zipped.{zipped}

abbrev pub listed_of : Listed → A.Listed
listed_of (Plain targets) = A.plain_list (targets_of targets)
listed_of (Tagged tag targets) = A.tagged_list tag (targets_of targets)

-- the last constant first
abbrev pub chosen_of : Chosen → A.Chosen
chosen_of c = record { constants = reverse (keys c.constants); has_else = c.has_else }

-- what is chosen then is what the definition gives
abbrev pub Chooses : {X : Type 0} → Result X CheckFault → Chosen → Option A.Chosen → Type 0
Chooses (Ok x) after given = given ≡ Some (chosen_of after)
Chooses (Err e) after given = Refuses e given

-- ---- lines in a context: each as the definition has it that its word is named after, of what the code read

abbrev pub assigned_in : Context → OneOrMore Var → OneOrMore Expr → Option T.Term
assigned_in c vs es = read_in c A.assigned (all_of lines.var_of vs) (all_of expression_of es)

abbrev pub output_in : Context → Var → OneOrMore Out → Option T.Term
output_in c v outs = read_in c A.output (lines.var_of v) (lines.out_of outs.first) (map lines.out_of outs.others.items)

abbrev pub received_in : Context → Input → Option (T.Place × A.Listed)
received_in c i = read_in c A.received (lines.input_of i)

abbrev pub test_in : Context → Option Expr → Option (Option T.Expression)
test_in c e = read_in c A.test_of (option_map expression_of e)

abbrev pub selector_in : Context → Expr → Option (Primitive × T.Expression)
selector_in c e = read_in c A.selector (expression_of e)

-- .. and as the code answers them: an assignment's targets and items, an output's channel, tag and items, an input's channel and list
abbrev pub as_assignment : List Target × List Item → T.Term
as_assignment x = T.Assign (targets_of x.0) (items_of x.1)

abbrev pub as_output : Place × Option ℕ × List Item → T.Term
as_output x = T.Output (place_of x.0) x.1 (items_of x.2)

abbrev pub as_received : Place × Listed → T.Place × A.Listed
as_received x = (place_of x.0, listed_of x.1)

-- a variant alone, without declarations
abbrev pub only_variant : (tag : ℕ) → List Target → Term → T.Variants
only_variant tag targets body = T.or_variant tag [] (targets_of targets) (term_of body) T.no_variants

-- ---- the sides of an assignment

abbrev pub variables_in : Context → List Var → Option (List (Primitive × Stretch))
variables_in c vs = each_of (read_in c variable_of) (map lines.var_of vs)

abbrev pub all_variables_in : Context → OneOrMore Var → Option (List (Primitive × Stretch))
all_variables_in c vs = each_of (read_in c variable_of) (all_of lines.var_of vs)

abbrev pub variable_parts : {B : Type 0} → Vec (Primitive × Part) B → List (Primitive × Stretch)
variable_parts xs = map variable_part xs.items

-- a value for a variable
abbrev pub side_assigned : Names → ℕ → Primitive × Part → Expression → Option T.Item
side_assigned ns line x e = typed ns line e >>= assigned_item (variable_part x)

abbrev pub side_in : Context → Primitive × Part → Expr → Option T.Item
side_in c x e = read_in c side_assigned x (expression_of e)

-- a value that is typed, for a variable
abbrev pub item_assigned : Primitive → Part → Typed → Option T.Item
item_assigned type part value = assigned_item (type, part_of part) (typed_of value)

-- as many values as variables
abbrev pub sides_in : Context → List (Primitive × Part) → List Expr → Option (List T.Item)
sides_in c xs es = zipped (read_in c side_assigned) xs (map expression_of es)

abbrev pub all_sides_in : Context → List (Primitive × Part) → OneOrMore Expr → Option (List T.Item)
all_sides_in c xs es = zipped (read_in c side_assigned) xs (all_of expression_of es)

-- ---- targets

-- one target of a list, for its part of the message
abbrev pub stored_one : Names → ℕ → PartType → L.Target → Option T.Target
stored_one ns line p t = aim_of ns line t >>= target_of line p

abbrev pub one_stored_in : Context → PartType → TargetTree → Option T.Target
one_stored_in c p t = read_in c stored_one p (lines.target_of t)

-- a part of a variable, and a part of one behind a part that takes the count
abbrev pub plain_target : (line : ℕ) → PartType → Primitive → Part → Option T.Target
plain_target line p type part = target_of line p (aim type (part_of part))

abbrev pub counted_target : (line : ℕ) → PartType → (count array : Primitive × Part) → Option T.Target
counted_target line p count array = target_of line p (counted_aim (variable_part count) (variable_part array))

-- as many targets as parts
abbrev pub each_stored_in : Context → List PartType → List TargetTree → Option (List T.Target)
each_stored_in c parts ts = zipped (read_in c stored_one) parts (map lines.target_of ts)

abbrev pub list_stored_in : Context → List PartType → OneOrMore TargetTree → Option (List T.Target)
list_stored_in c parts ts = zipped (read_in c stored_one) parts (all_of lines.target_of ts)

-- .. that are apart
abbrev pub stored_in : Context → List PartType → List TargetTree → Option (List T.Target)
stored_in c parts ts = read_in c stored parts (map lines.target_of ts)

abbrev pub stored_list_in : Context → List PartType → OneOrMore TargetTree → Option (List T.Target)
stored_list_in c parts ts = read_in c stored parts (all_of lines.target_of ts)

-- whether a variable of this type and these sizes takes the part
abbrev pub takes : PartType → Primitive → List ℕ → Bool
takes (OneOf type) t sizes = is_same_type t type && are_same_sizes sizes []
takes (ManyOf ns type) t sizes = is_same_type t type && are_same_sizes sizes ns
takes (CountedOf count type) t sizes = false
