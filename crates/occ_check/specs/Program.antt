-- Whole programs of the code, as the definitions have them.
-- Manual: scope; procedures.
use Rattle.std.specs.Prelude.{List, None, Option, Result, Some, [], map, ℕ}
use Rattle.occ_tree_grammar.specs.Lines.Views.{formals_of}
use Rattle.occ_tree_grammar.specs.Many.{◌>>=◌}
use Rattle.occ_tree_grammar.specs.Processes.Trees.{Item, value_item, protocol_item, proc_item}
use Rattle.occ_tree_grammar.specs.Processes.Views.{item_of, process_of}
use Rattle.occ_tree_grammar.specs.declared.tree.process.Item.{Item as ItemCode}
use Rattle.occ_tree_grammar.specs.declared.tree.process.Process.{Process}
use Rattle.occ_term.specs.Terms.{Term}
use Rattle.occ_term.specs.View.{term_of}
use Rattle.occ_term.specs.declared.term.Term.{Term as TermCode}
use Rattle.occ_term.specs.declared.primitive.Primitive.TheVariants.{Byte}
use Rattle.occ_term.specs.declared.protocol.Protocol.TheVariants.{Simple}
use Rattle.occ_check_meaning.specs.Programs as P
use Rattle.occ_check_meaning.specs.Performing.{Declaring, Under, behind, entered}
use Rattle.occ_check_meaning.specs.Numbers.{Numbers}
use Rattle.occ_check_meaning.specs.Programs.{items_declared}
use Rattle.occ_check_meaning.specs.Scope.{Known, Pairs, stretch_from, some_channels, within}
use Rattle.occ_check_meaning.specs.Types.{unnamed}
use Rattle.occ_check_lines.specs.View.{Unfolds, numbers_of}
use Rattle.occ_check_lines.specs.declared.fault.CheckFault.{CheckFault}
use Rattle.occ_check_lines.specs.declared.numbers.Numbers.{Numbers as NumbersCode}
use Rattle.occ_check_lines.specs.declared.scope.Position.{Position}
use Rattle.occ_check_lines.specs.Declaration.{pairs_of}
use Rattle.occ_check_lines.specs.declared.declaration.Named.{Named}
use Rattle.occ_check.specs.Opened.{body_unfolded}
use Rattle.occ_check.specs.Progress.{counted, meant_at}
use Rattle.occ_check.specs.declared.unfolder.Unfolder.{Unfolder}
use Rattle.occ_check.specs.declared.program.Main.{Main}

abbrev pub main_in : Main → P.Main
main_in m = record { before = map item_of m.before.now; formals = formals_of m.formals.now; body = process_of m.body.now }

-- the main process, where the item behind these is a PROC
abbrev pub main_at : List Item → Item → Option P.Main
main_at before (value_item line type x e) = None
main_at before (protocol_item p) = None
main_at before (proc_item line f fs body end_line) = Some (record { before = before; formals = fs; body = body })

-- items, and inside of them names
abbrev pub items_within : List Item → Pairs → Declaring
items_within items names sc depth n = items_declared items sc depth n >>= λ d. Some (entered (within names d.scope) d.heads d.numbers)

-- .. of the code, and a process behind them
abbrev pub items_and_names : List ItemCode → List Named → Declaring
items_and_names items names = items_within (map item_of items) (pairs_of names)

abbrev pub body_behind : List ItemCode → List Named → Process → Under Term
body_behind items names p = behind (items_and_names items names) (body_unfolded p)

-- what the main process unfolds to at a position, behind the items before it and names inside of them
abbrev pub ReadsMain : Result TermCode CheckFault → (old new : Unfolder) → Position → Main → List Named → Type 0
ReadsMain result old new at m names = Unfolds term_of result new.numbers (body_behind m.before.now names m.body.now (meant_at old at) 0 (counted old))

-- the term of a program, with the numbers that it gives out
abbrev pub with_numbers : TermCode × NumbersCode → Term × Numbers
with_numbers x = (term_of x.0, numbers_of x.1)

-- the channel of bytes with this number
abbrev pub byte_channel : ℕ → Known
byte_channel number = some_channels (unnamed (Simple [] Byte)) (stretch_from number [])
