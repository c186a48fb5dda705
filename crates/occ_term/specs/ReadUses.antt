-- What is evaluated rests on the cells that are read, and on no other.
-- Manual: expressions; the usage rules check list.
use Rattle.std.specs.Prelude.{Option, ℕ, ◌≡◌}
use Rattle.occ_term.specs.Messages.{Primitive, PartType}
use Rattle.occ_term.specs.Terms.{Expression, Item}
use Rattle.occ_term.specs.Values.{Store, value_of, part_of, AgreeOn}
use Rattle.occ_term.specs.Uses.{reads_of, reads_of_item}
use Rattle.occ_term.specs.Typing.{HasType, ItemHas}

-- in two stores that give the cells that it reads the same values, an expression has one value or one fault
abbrev pub ValuesRestOnReads : Type 0
ValuesRestOnReads =
    (types : ℕ → Option Primitive) (e : Expression) (t : Primitive) (s s' : Store)
    → HasType types e t → AgreeOn (reads_of e) s s' → value_of e s ≡ value_of e s'

-- and so an item that is output, assigned or named
abbrev pub ItemsRestOnReads : Type 0
ItemsRestOnReads =
    (types : ℕ → Option Primitive) (i : Item) (t : PartType) (s s' : Store)
    → ItemHas types i t → AgreeOn (reads_of_item i) s s' → part_of i s ≡ part_of i s'
