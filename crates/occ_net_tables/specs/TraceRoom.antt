-- Room in the lists of a trace, and what is put into them.
-- Manual: nothing; this is (own).
use Rattle.std.specs.Prelude.{List, [], length, vec_capacity, vec_len, ◌+◌, ◌<◌, ◌≡◌, ◌≤◌, ◌++◌, ◌∷◌}
use Rattle.occ_term.specs.declared.message.Part.{Part}
use Rattle.occ_net_tables.specs.declared.lists.Lists.{Lists}
use Rattle.occ_net_tables.specs.declared.shapes.Head.{Head}
use Rattle.occ_net_tables.specs.Flat.{all_lengths, all_shapes, all_words, lengths_of, shape_of, words_of}

-- both hold the same
pub record HoldSame (old new : Lists) : Type 0 where
  pub heads : new.heads.items ≡ old.heads.items
  pub shapes : new.shapes.items ≡ old.shapes.items
  pub lengths : new.lengths.items ≡ old.lengths.items
  pub words : new.words.items ≡ old.words.items

-- they hold nothing
pub record AreEmpty (l : Lists) : Type 0 where
  pub heads : l.heads.items ≡ []
  pub shapes : l.shapes.items ≡ []
  pub lengths : l.lengths.items ≡ []
  pub words : l.words.items ≡ []

-- for these items, and for their end
pub record HasRoomForAll (l : Lists) (ps : List Part) : Type 0 where
  pub shapes : vec_len l.shapes + length (all_shapes ps) ≤ vec_capacity l.shapes
  pub lengths : vec_len l.lengths + length (all_lengths ps) ≤ vec_capacity l.lengths
  pub words : vec_len l.words + length (all_words ps) ≤ vec_capacity l.words

-- for a communication of these items
pub record HasRoomForMessage (l : Lists) (ps : List Part) : Type 0 where
  pub heads : vec_len l.heads < vec_capacity l.heads
  pub items : HasRoomForAll l ps

-- for one item
pub record HasRoomFor (l : Lists) (p : Part) : Type 0 where
  pub shapes : vec_len l.shapes < vec_capacity l.shapes
  pub lengths : vec_len l.lengths + length (lengths_of p) ≤ vec_capacity l.lengths
  pub words : vec_len l.words + length (words_of p) ≤ vec_capacity l.words

-- it is there
pub record PutsPart (old : Lists) (p : Part) (new : Lists) : Type 0 where
  pub heads : new.heads ≡ old.heads
  pub shapes : new.shapes.items ≡ old.shapes.items ++ shape_of p ∷ []
  pub shapes_len : vec_len new.shapes ≡ vec_len old.shapes + 1
  pub shapes_room : vec_capacity old.shapes ≤ vec_capacity new.shapes
  pub lengths : new.lengths.items ≡ old.lengths.items ++ lengths_of p
  pub lengths_len : vec_len new.lengths ≡ vec_len old.lengths + length (lengths_of p)
  pub lengths_room : vec_capacity old.lengths ≤ vec_capacity new.lengths
  pub words : new.words.items ≡ old.words.items ++ words_of p
  pub words_len : vec_len new.words ≡ vec_len old.words + length (words_of p)
  pub words_room : vec_capacity old.words ≤ vec_capacity new.words

-- a communication is there
pub record Appends (old : Lists) (h : Head) (ps : List Part) (new : Lists) : Type 0 where
  pub heads : new.heads.items ≡ old.heads.items ++ h ∷ []
  pub shapes : new.shapes.items ≡ old.shapes.items ++ all_shapes ps
  pub lengths : new.lengths.items ≡ old.lengths.items ++ all_lengths ps
  pub words : new.words.items ≡ old.words.items ++ all_words ps
