-- Room for a communication of a single value.
-- Manual: nothing; this is (own).
use Rattle.std.specs.Prelude.{vec_capacity, vec_len, ◌+◌, ◌<◌}
use Rattle.occ_net_tables.specs.declared.lists.Lists.{Lists}

pub record HasRoomForValue (l : Lists) : Type 0 where
  pub heads : vec_len l.heads < vec_capacity l.heads
  pub shapes : vec_len l.shapes + 1 < vec_capacity l.shapes
  pub words : vec_len l.words < vec_capacity l.words
