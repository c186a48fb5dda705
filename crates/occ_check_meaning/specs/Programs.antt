-- Whole programs: the main process is the last PROC, and what stands behind it is read by the grammar alone.
-- Manual: scope; procedures. The main process, its formals, and that named values at the top stand before it: (own).
use Rattle.std.specs.Prelude.{Bool, List, None, Option, Some, [], false, length, nat_le, true, ℕ, ◌&&◌, ◌+◌, ◌++◌, ◌∷◌}
use Rattle.occ_tree_grammar.specs.Many.{◌>>=◌}
use Rattle.occ_tree_grammar.specs.declared.tree.expr.Primitive.TheVariants as primitives
use Rattle.occ_tree_grammar.specs.Expressions.Trees.{no_expression}
use Rattle.occ_tree_grammar.specs.Lines.Trees as L
use Rattle.occ_tree_grammar.specs.Processes.Trees.{process, Node, Item, value_item, protocol_item, proc_item}
use Rattle.occ_term.specs.declared.primitive.Primitive.TheVariants.{Byte}
use Rattle.occ_term.specs.declared.protocol.Protocol.TheVariants.{Simple}
use Rattle.occ_term.specs.Terms.{Term}
use Rattle.occ_check_meaning.specs.Scope.{keep, stretch_from, some_channels, Name, Pairs, within, once}
use Rattle.occ_check_meaning.specs.Numbers.{Numbers, at_start}
use Rattle.occ_check_meaning.specs.Types.{unnamed}
use Rattle.occ_check_meaning.specs.Calls.{spec_after}
use Rattle.occ_check_meaning.specs.Actions.{headed, opening}
use Rattle.occ_check_meaning.specs.Performing.{Declaring, entered}
use Rattle.occ_check_meaning.specs.Recursion.{unfolded, item_declared}

-- the last PROC, with the items before it
pub record Main : Type 0 where
  pub before : List Item
  pub formals : L.Formals
  pub body : Node process

abbrev pub last_or : Item → Option Main → Option Main
last_or i (Some m) = Some (record m { before = i ∷ m.before })
last_or (value_item line type x e) None = None
last_or (protocol_item p) None = None
last_or (proc_item line f fs body end_line) None = Some (record { before = []; formals = fs; body = body })

-- (refusal: no main) no PROC
unfoldable pub main_of : List Item → Option Main
main_of [] = None
main_of (i ∷ items) = last_or i (main_of items)

-- ---- its formals: the first one, two or three of the keyboard, the screen and the error channel, under any names

abbrev pub is_byte_channel : L.Spec → Bool
is_byte_channel (L.by_channel [] (L.carries (L.single no_expression primitives.Byte))) = true
is_byte_channel s = false

unfoldable pub other_names : L.Spec → List L.Formal → Option (List Name)
other_names before [] = Some []
other_names before (L.formal s x ∷ fs) = do
  xs ← other_names (spec_after before s) fs
  keep (is_byte_channel (spec_after before s)) (x ∷ xs)

-- (refusal: no main) formals of another number or type
abbrev pub byte_channels : L.Formals → Option (List Name)
byte_channels L.no_formals = None
byte_channels (L.formals s x fs) = do
  xs ← other_names s fs
  keep (is_byte_channel s && nat_le (length xs) 2) (x ∷ xs)

abbrev pub main_names : L.Formals → Option (List Name)
main_names fs = byte_channels fs >>= once

abbrev pub channels_from : ℕ → List Name → Pairs
channels_from c [] = []
channels_from c (x ∷ xs) = (x, some_channels (unnamed (Simple [] Byte)) (stretch_from c [])) ∷ channels_from (c + 1) xs

-- ---- the whole

unfoldable pub items_declared : List Item → Declaring
items_declared [] sc depth n = Some (entered sc [] n)
items_declared (i ∷ items) sc depth n = do
  x ← item_declared i sc depth n
  r ← items_declared items x.scope depth x.numbers
  Some (entered r.scope (x.heads ++ r.heads) r.numbers)

-- The term of a program, and the cells and channels that it declares. The Locals of named values at the top head one SEQ, whose
-- last part is the main process.
abbrev pub program_unfolded : List Item → Option (Term × Numbers)
program_unfolded items = do
  main ← main_of items
  xs ← main_names main.formals
  d ← items_declared main.before [] 1 at_start
  o ← opening d.heads 0 d.numbers
  t ← unfolded main.body (within (channels_from 0 xs) d.scope) o.0 o.1
  Some (headed d.heads t.0, t.1)
