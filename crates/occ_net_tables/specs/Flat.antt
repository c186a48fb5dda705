-- Communications as a few lists: heads, the shapes of items, the lengths of arrays, and values.
-- Manual: nothing; this is (own).
use Rattle.std.specs.Prelude.{List, [], drop, length, pos, take, ℕ, ℤ, ◌++◌, ◌∷◌}
use Rattle.occ_term.specs.declared.message.Part.{Part}
use Rattle.occ_term.specs.declared.message.Part.TheVariants.{One, Many, Counted}
use Rattle.occ_term.specs.Messages.{message}
use Rattle.occ_term.specs.declared.communication.Communication.{Communication}
use Rattle.occ_net_tables.specs.declared.shapes.Head.{Head}
use Rattle.occ_net_tables.specs.declared.shapes.Shape.{Shape}
use Rattle.occ_net_tables.specs.declared.shapes.Shape.TheVariants as shape

-- ---- how communications are kept

abbrev pub communication_head : Communication → Head
communication_head x = record { chan = x.chan; sender = x.sender; receiver = x.receiver; tag = x.message.tag }

abbrev pub shape_of : Part → Shape
shape_of (One type v) = shape.One type
shape_of (Many type vs) = shape.Many type
shape_of (Counted type vs) = shape.Counted type

-- a single value has no length
abbrev pub lengths_of : Part → List ℕ
lengths_of (One type v) = []
lengths_of (Many type vs) = length vs ∷ []
lengths_of (Counted type vs) = length vs ∷ []

abbrev pub words_of : Part → List ℤ
words_of (One type v) = v ∷ []
words_of (Many type vs) = vs
words_of (Counted type vs) = vs

-- those of the items of a message
abbrev pub all_shapes : List Part → List Shape
all_shapes [] = shape.Done ∷ []
all_shapes (p ∷ ps) = shape_of p ∷ all_shapes ps

abbrev pub all_lengths : List Part → List ℕ
all_lengths [] = []
all_lengths (p ∷ ps) = lengths_of p ++ all_lengths ps

abbrev pub all_words : List Part → List ℤ
all_words [] = []
all_words (p ∷ ps) = words_of p ++ all_words ps

-- those of all messages
abbrev pub shapes_in : List Communication → List Shape
shapes_in [] = []
shapes_in (x ∷ xs) = all_shapes x.message.items ++ shapes_in xs

abbrev pub lengths_in : List Communication → List ℕ
lengths_in [] = []
lengths_in (x ∷ xs) = all_lengths x.message.items ++ lengths_in xs

abbrev pub words_in : List Communication → List ℤ
words_in [] = []
words_in (x ∷ xs) = all_words x.message.items ++ words_in xs

-- ---- how they are read

abbrev pub first_word : List ℤ → ℤ
first_word [] = pos 0
first_word (v ∷ vs) = v

abbrev pub first_count : List ℕ → ℕ
first_count [] = 0
first_count (n ∷ ns) = n

-- the items of the first message
abbrev pub items_in : List Shape → List ℕ → List ℤ → List Part
items_in [] ns vs = []
items_in (shape.One type ∷ ss) ns vs = One type (first_word vs) ∷ items_in ss ns (drop 1 vs)
items_in (shape.Many type ∷ ss) ns vs = Many type (take (first_count ns) vs) ∷ items_in ss (drop 1 ns) (drop (first_count ns) vs)
items_in (shape.Counted type ∷ ss) ns vs = Counted type (take (first_count ns) vs) ∷ items_in ss (drop 1 ns) (drop (first_count ns) vs)
items_in (shape.Done ∷ ss) ns vs = []

-- what is behind them
abbrev pub shapes_behind : List Shape → List Shape
shapes_behind [] = []
shapes_behind (shape.One type ∷ ss) = shapes_behind ss
shapes_behind (shape.Many type ∷ ss) = shapes_behind ss
shapes_behind (shape.Counted type ∷ ss) = shapes_behind ss
shapes_behind (shape.Done ∷ ss) = ss

abbrev pub lengths_behind : List Shape → List ℕ → List ℕ
lengths_behind [] ns = ns
lengths_behind (shape.One type ∷ ss) ns = lengths_behind ss ns
lengths_behind (shape.Many type ∷ ss) ns = lengths_behind ss (drop 1 ns)
lengths_behind (shape.Counted type ∷ ss) ns = lengths_behind ss (drop 1 ns)
lengths_behind (shape.Done ∷ ss) ns = ns

abbrev pub words_behind : List Shape → List ℕ → List ℤ → List ℤ
words_behind [] ns vs = vs
words_behind (shape.One type ∷ ss) ns vs = words_behind ss ns (drop 1 vs)
words_behind (shape.Many type ∷ ss) ns vs = words_behind ss (drop 1 ns) (drop (first_count ns) vs)
words_behind (shape.Counted type ∷ ss) ns vs = words_behind ss (drop 1 ns) (drop (first_count ns) vs)
words_behind (shape.Done ∷ ss) ns vs = vs

-- a communication with this head and these items
abbrev pub made : Head → List Part → Communication
made h ps = record { chan = h.chan; sender = h.sender; receiver = h.receiver; message = message h.tag ps }

abbrev pub communications_in : List Head → List Shape → List ℕ → List ℤ → List Communication
communications_in [] ss ns vs = []
communications_in (h ∷ hs) ss ns vs = made h (items_in ss ns vs) ∷ communications_in hs (shapes_behind ss) (lengths_behind ss ns) (words_behind ss ns vs)
