-- What the parts of a line are in a context: each as the definition has it that its word is named after, of what the code read.
-- Manual: nothing; this is (own).
use Rattle.std.specs.Prelude.{List, None, Option, map, option_map, pos, ℕ, ℤ}
use Rattle.occ_tree_grammar.specs.Expressions.Trees.{Operand, expression_of, lit_of, literal, operands}
use Rattle.occ_tree_grammar.specs.Lines.Trees as L
use Rattle.occ_tree_grammar.specs.Lines.Views as lines
use Rattle.occ_tree_grammar.specs.Processes.Views as processes
use Rattle.occ_tree_grammar.specs.declared.tree.expr.Expr.{Expr}
use Rattle.occ_tree_grammar.specs.declared.tree.expr.Literal.{Literal}
use Rattle.occ_tree_grammar.specs.declared.tree.expr.Logic.{Logic}
use Rattle.occ_tree_grammar.specs.declared.tree.line.Carried.{Carried as CarriedTree}
use Rattle.occ_tree_grammar.specs.declared.tree.line.OneOrMore.{OneOrMore}
use Rattle.occ_tree_grammar.specs.declared.tree.line.Out.{Out}
use Rattle.occ_tree_grammar.specs.declared.tree.line.Replicator.{Replicator}
use Rattle.occ_tree_grammar.specs.declared.tree.line.Size.{Size}
use Rattle.occ_tree_grammar.specs.declared.tree.line.Sort.{Sort}
use Rattle.occ_tree_grammar.specs.declared.tree.line.ValueType.{ValueType}
use Rattle.occ_tree_grammar.specs.declared.tree.line.Var.{Var}
use Rattle.occ_tree_grammar.specs.declared.tree.process.Protocol.{Protocol as ProtocolTree}
use Rattle.occ_tree_grammar.specs.declared.tree.process.Tag.{Tag as TagTree}
use Rattle.occ_term.specs.Terms as T
use Rattle.occ_term.specs.View as terms
use Rattle.occ_term.specs.declared.expression.TermExpr.{TermExpr}
use Rattle.occ_term.specs.declared.primitive.Primitive.{Primitive}
use Rattle.occ_term.specs.declared.primitive.Primitive.TheVariants.{Int}
use Rattle.occ_term.specs.declared.protocol.PartType.{PartType}
use Rattle.occ_term.specs.declared.protocol.PartType.TheVariants.{Counted as CountedOf}
use Rattle.occ_term.specs.declared.protocol.Protocol.{Protocol}
use Rattle.occ_check_meaning.specs.Declarations as D
use Rattle.occ_check_meaning.specs.Expressions as E
use Rattle.occ_check_meaning.specs.Items as I
use Rattle.occ_check_meaning.specs.Numbers as N
use Rattle.occ_check_meaning.specs.Scope as S
use Rattle.occ_check_meaning.specs.Types as Types
use Rattle.occ_check_lines.specs.Reading.{names_listed, read_in, trees_of}
use Rattle.occ_check_lines.specs.View.{names_in, numbers_of, stretch_of, subscripts_of, typed_of}
use Rattle.occ_check_lines.specs.declared.context.Context.{Context}
use Rattle.occ_check_lines.specs.declared.known.Stretch.{Stretch}
use Rattle.occ_check_lines.specs.declared.numbers.Numbers.{Numbers}
use Rattle.occ_check_lines.specs.declared.scope.Scope.{Scope}
use Rattle.occ_check_lines.specs.declared.typed.Typed.{Typed}

-- ---- expressions

abbrev pub typed_in : Context → Expr → Option E.Typed
typed_in c e = read_in c E.typed (expression_of e)

-- one value of a type, and the value of a constant of a type
abbrev pub typed_as_in : Context → Primitive → Expr → Option T.Expression
typed_as_in c type e = read_in c E.typed_as type (expression_of e)

abbrev pub constant_in : Context → Primitive → Expr → Option ℤ
constant_in c type e = read_in c E.constant_as type (expression_of e)

abbrev pub subscripts_in : Context → List Expr → Option T.Subscripts
subscripts_in c es = read_in c E.typed_subscripts (trees_of es)

-- what an operand is, and its SIZE
abbrev pub operand_in : Context → Operand → Option E.Typed
operand_in c a = read_in c E.typed_operand a

abbrev pub size_in : Context → Operand → Option ℕ
size_in c a = read_in c E.size_of_operand a

-- the SIZE of a literal without a type
abbrev pub literal_size : (line : ℕ) → Literal → Option ℕ
literal_size line l = E.size_of_operand (λ x. None) line (literal (lit_of l) None)

-- AND or OR of a value and of further operands
abbrev pub chain_in : Context → Logic → TermExpr → List Operand → Option T.Expression
chain_in c logic first others = read_in c E.typed_chain logic (terms.expression_of first) (operands others)

-- the subscripts of a stretch, and further ones
abbrev pub joined_under : Stretch → List TermExpr → T.Subscripts
joined_under r es = E.joined ((stretch_of r).subscripts) (subscripts_of es)

-- a component of a string
abbrev pub letter_of : (line : ℕ) → List ℕ → TermExpr → Option E.Typed
letter_of line bytes e = E.read line (S.a_string (map pos bytes)) (T.then_subscript (terms.expression_of e) T.no_subscripts)

-- the SIZE of a stretch under subscripts, of whatever it is
abbrev pub stretch_size : Stretch → List TermExpr → Option ℕ
stretch_size r es = E.size_of_known (S.some_cells S.kept Int (stretch_of r)) (subscripts_of es)

-- ---- variables, channels, and what is output

abbrev pub variable_in : Context → Var → Option (Primitive × S.Stretch)
variable_in c v = read_in c I.variable_of (lines.var_of v)

abbrev pub channel_in : Context → Var → Option (Protocol × T.Place)
channel_in c v = read_in c I.channel_of (lines.var_of v)

-- as many items as parts
abbrev pub sent_items_in : Context → List PartType → List L.Out → Option (List T.Item)
sent_items_in c parts outs = read_in c I.sent_items parts outs

-- the tag of an output where it has one, and its items
abbrev pub sent_in : Context → Protocol → OneOrMore Out → Option (Option ℕ × List T.Item)
sent_in c p outs = read_in c I.sent p (lines.out_of outs.first) (map lines.out_of outs.others.items)

-- an array behind its count, for a part of these types
abbrev pub counted_of : (line : ℕ) → Primitive → TermExpr → Typed → Option T.Item
counted_of line type number value = I.counted_item line (CountedOf Int type) (E.single Int (terms.expression_of number)) (typed_of value)

-- ---- types

-- a size that is given
abbrev pub given_size_in : Context → Expr → Option (Option ℕ)
given_size_in c e = read_in c Types.open_size (L.given (expression_of e))

abbrev pub sizes_in : Context → List Expr → Option (List ℕ)
sizes_in c es = read_in c Types.sizes_of (trees_of es)

abbrev pub open_sizes_in : Context → List Size → Option Types.Open
open_sizes_in c sizes = read_in c Types.open_sizes_of (map lines.size_of sizes)

-- the parts of a message
abbrev pub each_part_in : Context → List L.Part → Option (List PartType)
each_part_in c parts = S.each_of (read_in c Types.part_of) parts

-- what a channel carries
abbrev pub carried_in : Context → CarriedTree → Option S.Carried
carried_in c carried = read_in c Types.carried_of (lines.carried_of carried)

-- a protocol that is declared, and the names of its tags
abbrev pub protocol_in : Scope → ProtocolTree → Option Protocol
protocol_in s p = Types.protocol_of (names_in s) (processes.protocol_of p)

abbrev pub names_of_tags : List TagTree → List S.Name
names_of_tags tags = Types.tag_names (map processes.tag_of tags)

-- ---- declarations, whose Clears and Locals stand at a depth

abbrev pub declared_in : Context → (depth : ℕ) → List Expr → Sort → OneOrMore (List ℕ) → Numbers → Option D.Opened
declared_in c depth sizes sort names n = read_in c D.names_declared depth (trees_of sizes) (lines.sort_of sort) (names_listed names) (numbers_of n)

abbrev pub named_in : Context → (depth : ℕ) → Option ValueType → S.Name → Expr → Numbers → Option D.Opened
named_in c depth type x e n = read_in c D.value_declared depth (option_map lines.value_type_of type) x (expression_of e) (numbers_of n)

-- a value whose type is given, where one is
abbrev pub given_type_in : Context → Option ValueType → Typed → Option E.Typed
given_type_in c type value = read_in c D.of_value_type (option_map lines.value_type_of type) (typed_of value)

-- a protocol, with the name that it is declared by
abbrev pub protocol_declared_in : Scope → ProtocolTree → N.Numbers → Option D.Opened
protocol_declared_in s p = D.protocol_declared (names_in s) (processes.protocol_of p)

-- a replicator with its index, or with its copies
abbrev pub indexed_in : Context → (depth : ℕ) → Replicator → Numbers → Option D.Indexed
indexed_in c depth r n = read_in c D.indexed depth (lines.replicator_of r) (numbers_of n)

abbrev pub copies_in : Context → Replicator → Option (ℤ × ℕ)
copies_in c r = read_in c D.copies_of (lines.replicator_of r)
