-- Spans in turn.
-- Manual: nothing; this is (own).
use Rattle.std.specs.Prelude.{Bool, List, [], false, nat_le, true, ◌&&◌, ◌+◌, ◌||◌, ◌∷◌}
use Rattle.occ_term.specs.Values.{Span, span}
use Rattle.occ_check_meaning.specs.Items.{have_common}

abbrev pub ends_before : Span → Span → Bool
ends_before (span first count) (span other n) = nat_le (first + count) other

-- each ends before the next one begins
abbrev pub end_in_turn : List Span → Bool
end_in_turn [] = true
end_in_turn (a ∷ []) = true
end_in_turn (a ∷ b ∷ rest) = ends_before a b && end_in_turn (b ∷ rest)

-- one has a cell in common with the next one
abbrev pub neighbours_meet : List Span → Bool
neighbours_meet [] = false
neighbours_meet (a ∷ []) = false
neighbours_meet (a ∷ b ∷ rest) = have_common a b || neighbours_meet (b ∷ rest)
