-- What has types under declarations that have no type for a cell doesn't read that cell.
use Rattle.std.proofs.Common.{◌≡◌, ℕ, List, [], ◌∷◌, Bool, true, false, Option, Some, None, IsTrue, refl, sym, subst, ◌∙◌, arith}
use Rattle.std.specs.Prelude.{nat_eq, if◌then◌else◌}
use Rattle.std.proofs.lemmas.Bool.{eqb-true}
use Rattle.std.proofs.lemmas.Bool.Decides.{nat_tests}
use Rattle.occ_term.specs.declared.primitive.Primitive.{Primitive}
use Rattle.occ_term.specs.declared.primitive.Primitive.TheVariants.{Int, Bool as Boolean}
use Rattle.occ_term.specs.declared.expression.Monadic.TheVariants as monadic
use Rattle.occ_term.specs.Messages.{product, simple_part}
use Rattle.occ_term.specs.Terms as T
use Rattle.occ_term.specs.Terms.{Constant, Component, Letter, Binary, Unary, And, Or, Conversion, place, Subscripts, no_subscripts, then_subscript, Array, Cells, Text, Item, OfOne, OfMany, OfCounted}
use Rattle.occ_term.specs.Values.{span}
use Rattle.occ_term.specs.Uses.{numbers_in, part_named, reads_of, reads_in_subscripts, reads_of_array, reads_of_item}
use Rattle.occ_term.specs.Typing.{CellsHave, HasType, SubscriptsLeave, ArrayHas, ItemHas}
use Rattle.occ_term.specs.TermTyping.{Declared}
use Rattle.occ_check_meaning.proofs.Covering.{either_false}
use Rattle.occ_check_meaning.proofs.Writes.{Not, part_avoids}

same_cell : (c : ℕ) → IsTrue (nat_eq c c)
same_cell c = grind (arith, nat_tests)

-- the same without the type of one cell
abbrev pub hidden : ℕ → Declared → Declared
hidden c d = record { types = λ k. if nat_eq k c then None else d.types k; protocols = d.protocols }

no_type : {type : Primitive} {o : Option Primitive} → o ≡ None → o ≡ Some type → ⊥
no_type h g = never (sym h ∙ g)
  where
    never : {type : Primitive} → None ≡ Some type → ⊥
    never e = absurd cc

pub nothing_there : (c : ℕ) (d : Declared) → (hidden c d).types c ≡ None
nothing_there c d = by_test (nat_eq c c) (same_cell c)
  where
    by_test : (b : Bool) → IsTrue b → (if b then None else d.types c) ≡ None
    by_test true h = refl
    by_test false h = absurd cc

module _ (types : ℕ → Option Primitive) (c : ℕ) (none : types c ≡ None) where
  span_unread : (first : ℕ) (sizes : List ℕ) (subs : Subscripts) (type : Primitive) → CellsHave types (span first (product sizes)) type → Not (numbers_in (part_named subs first sizes (span first (product sizes))) c)
  span_unread first sizes subs type h =
      let n : Not (numbers_in (span first (product sizes)) c) = λ m. no_type none (h c m) in
      part_avoids c subs first sizes (span first (product sizes)) n n

  mutual
    pub unread : (e : T.Expression) (type : Primitive) → HasType types e type → Not (reads_of e c)
    unread (Constant v) type h m = absurd cc
    unread (T.Cell x) type h m = no_type none (subst (λ k. types k ≡ Some type) (eqb-true x c m) h)
    unread (Component (place line first sizes subs)) type h m =
        either_false (numbers_in (part_named subs first sizes (span first (product sizes))) c) (reads_in_subscripts subs c) (span_unread first sizes subs type h.0) (subscripts_unread subs sizes [] h.1) m
    unread (Letter line text e) type h m = unread e Int h.2 m
    unread (Binary op t line a b) type h m = either_false (reads_of a c) (reads_of b c) (unread a t h.2) (unread b h.0 h.3) m
    unread (Unary monadic.Negate t line a) type h m = unread a t h.2 m
    unread (Unary monadic.BitNot t line a) type h m = unread a t h.2 m
    unread (Unary monadic.Not t line a) type h m = unread a Boolean h.2 m
    unread (And a b) type h m = either_false (reads_of a c) (reads_of b c) (unread a Boolean h.1) (unread b Boolean h.2) m
    unread (Or a b) type h m = either_false (reads_of a c) (reads_of b c) (unread a Boolean h.1) (unread b Boolean h.2) m
    unread (Conversion to line a) type h m = unread a h.1 h.2 m

    subscripts_unread : (es : Subscripts) (sizes rest : List ℕ) → SubscriptsLeave types es sizes rest → Not (reads_in_subscripts es c)
    subscripts_unread no_subscripts sizes rest h m = absurd cc
    subscripts_unread (then_subscript e es) [] rest h m = absurd h
    subscripts_unread (then_subscript e es) (n ∷ ns) rest h m = either_false (reads_of e c) (reads_in_subscripts es c) (unread e Int h.0) (subscripts_unread es ns rest h.1) m

  array_unread : (a : Array) (type : Primitive) (sizes : List ℕ) → ArrayHas types a type sizes → Not (reads_of_array a c)
  array_unread (Cells (place line first sizes subs)) type rest h m =
      either_false (numbers_in (part_named subs first sizes (span first (product sizes))) c) (reads_in_subscripts subs c) (span_unread first sizes subs type h.0) (subscripts_unread subs sizes rest h.1) m
  array_unread (Text bytes) type rest h m = absurd cc

  pub item_unread : (i : Item) (sizes : List ℕ) (type : Primitive) → ItemHas types i (simple_part sizes type) → Not (reads_of_item i c)
  item_unread (OfOne t e) [] type h m = unread e type h.1 m
  item_unread (OfOne t e) (n ∷ ns) type h m = absurd h
  item_unread (OfMany t a) [] type h m = absurd h
  item_unread (OfMany t a) (n ∷ ns) type h m = array_unread a type (n ∷ ns) h.1 m
  item_unread (OfCounted t line n a) [] type h m = absurd h
  item_unread (OfCounted t line n a) (k ∷ ks) type h m = absurd h
