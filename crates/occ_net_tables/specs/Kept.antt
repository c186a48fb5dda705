-- The communications that the lists of a trace keep.
-- Manual: nothing; this is (own).
use Rattle.std.specs.Prelude.{List, drop, map, ◌≡◌, ℕ, ℤ}
use Rattle.occ_term.specs.declared.communication.Communication.{Communication}
use Rattle.occ_net_tables.specs.declared.lists.Lists.{Lists}
use Rattle.occ_net_tables.specs.Flat.{communications_in, communication_head, lengths_in, shapes_in, words_in, items_in, lengths_behind, words_behind}
use Rattle.occ_net_tables.specs.TracePlaces.{Place}
use Rattle.occ_net_tables.specs.declared.pieces.Pieces.{Pieces}
use Rattle.occ_net_tables.specs.declared.shapes.Head.{Head}
use Rattle.occ_term.specs.declared.message.Part.{Part}

abbrev pub kept_in : Lists → List Communication
kept_in l = communications_in l.heads.items l.shapes.items l.lengths.items l.words.items

-- those behind a place
abbrev pub kept_behind : Place → Lists → List Communication
kept_behind p l =
    communications_in (drop p.heads l.heads.items) (drop p.shapes l.shapes.items) (drop p.lengths l.lengths.items) (drop p.words l.words.items)

-- the lists are those of these communications, with nothing beside
pub record AreListsOf (xs : List Communication) (l : Lists) : Type 0 where
  pub heads : l.heads.items ≡ map communication_head xs
  pub shapes : l.shapes.items ≡ shapes_in xs
  pub lengths : l.lengths.items ≡ lengths_in xs
  pub words : l.words.items ≡ words_in xs

-- ---- what stands from the first item of a message on

abbrev pub items_from : Pieces → List Part
items_from p = items_in p.shapes.now p.lengths.now p.words.now

abbrev pub communications_from : List Head → Pieces → List Communication
communications_from heads p = communications_in heads p.shapes.now p.lengths.now p.words.now

abbrev pub lengths_after : Pieces → List ℕ
lengths_after p = lengths_behind p.shapes.now p.lengths.now

abbrev pub words_after : Pieces → List ℤ
words_after p = words_behind p.shapes.now p.lengths.now p.words.now
