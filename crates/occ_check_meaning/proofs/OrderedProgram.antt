-- A program's cells, read from left to right in its term, are all that it declares, from 0 on in order.
use Rattle.std.proofs.Common.{ℕ, List, ◌++◌, length, refl, arith}
use Rattle.std.specs.Prelude.{map, slice_get}
use Rattle.occ_tree_grammar.specs.Processes.Trees.{Item}
use Rattle.occ_term.specs.Terms.{Term}
use Rattle.occ_term.specs.TermTyping.{Declared}
use Rattle.occ_check_meaning.specs.Numbers.{Numbers, at_start}
use Rattle.occ_check_meaning.specs.Actions.{headed}
use Rattle.occ_check_meaning.specs.CellOrder.{cells_of_all, cells_in, InOrder}
use Rattle.occ_check_meaning.specs.Growth.{Grown}
use Rattle.occ_check_meaning.specs.Performing.{Entered}
use Rattle.occ_check_meaning.specs.Programs.{channels_from}
use Rattle.occ_check_meaning.specs.ProgramUnfolding.{DeclareItems, no_item, one_item, ProgramUnfolding, program}
use Rattle.occ_check_meaning.specs.Unfolding.{Procedure, Procedures}
use Rattle.occ_check_meaning.proofs.Scopes.{each_within}
use Rattle.occ_check_meaning.proofs.Growth.{growing, processes_grown}
use Rattle.occ_check_meaning.proofs.Covering.{Covers, since, covers_before}
use Rattle.occ_check_meaning.proofs.Stepping.{opening_steps, item_steps, items_steps}
use Rattle.occ_check_meaning.proofs.TreeSteps.{unfolding_steps}
use Rattle.occ_check_meaning.proofs.TypedNames.{Fits}
use Rattle.occ_check_meaning.proofs.TypedTree.{In, item_has, later}
use Rattle.occ_check_meaning.proofs.WellFormed.{few_names, channels_fit, items_have, mapped_get}
use Rattle.occ_check_meaning.proofs.OrderedNames.{heads_in_order}
use Rattle.occ_check_meaning.proofs.OrderedTree.{Takes, the_same, both, opening_begins, headed_cells, item_takes, unfolding_takes}

-- what these numbers declare
pub declared_by : Numbers → Declared
declared_by m = record { types = λ c. slice_get (map (λ x. x.primitive) m.cells) c; protocols = λ c. slice_get (map (λ x. x.protocol) m.channels) c }

pub covered : (m : Numbers) → Covers (declared_by m) m
unfolding declared_by
covered m = record { cells = λ c x e. mapped_get (λ y. y.primitive) m.cells c x e; channels = λ c x e. mapped_get (λ y. y.protocol) m.channels c x e }

module _ (d : Declared) where
  items_take : {sc : Procedures} {depth : ℕ} {n : Numbers} {is : List Item} {e : Entered Procedure} → DeclareItems sc depth n is e → In d sc n → Covers d e.numbers → Takes n (cells_of_all e.heads) e.numbers
  items_take no_item h c = refl
  items_take (one_item {n = n} {a = a} {b = b} x y) h c =
      let k = item_has d x h (item_steps Grown growing x) (since d n a.numbers (covers_before d a.numbers b.numbers (items_steps Grown growing y) c)) in
      heads_in_order a.heads b.heads (length n.cells) (length a.numbers.cells) (length b.numbers.cells) (item_takes d x h) (items_take y k.0 c)

  program_takes : {is : List Item} {t : Term} {m : Numbers} → ProgramUnfolding is t m → Covers d m → Takes at_start (cells_in t) m
  program_takes (program {main = main} {xs = xs} {d = e} {deep = deep} {m = m} {l = l} {t = t} a x ds o u) c =
      let b = covers_before d m l (unfolding_steps Grown growing processes_grown u) c in
      let g = opening_steps Grown growing e.heads 0 e.numbers deep m o in
      let s = covers_before d e.numbers m g b in
      let k = items_have d ds tt s in
      let f = few_names main.formals xs x in
      let q = later d e.scope e.numbers m g k.0 in
      the_same (cells_of_all e.heads ++ cells_in t) (cells_in (headed e.heads t)) at_start l (headed_cells e.heads t)
      (both (cells_of_all e.heads) (cells_in t) at_start e.numbers l (items_take ds tt s) (opening_begins (cells_in t) e.heads 0 e.numbers deep m l o
      (unfolding_takes d u (each_within (Fits d (length m.cells)) (channels_from 0 xs) e.scope
      (channels_fit d (length m.cells) (covers_before d at_start e.numbers (items_steps Grown growing ds) s) 0 xs (omega (arith, f))) q) c)))

pub cells_in_order : {is : List Item} {t : Term} {m : Numbers} → ProgramUnfolding is t m → InOrder 0 (cells_in t) (length m.cells)
cells_in_order {m = m} u = program_takes (declared_by m) u (covered m)
