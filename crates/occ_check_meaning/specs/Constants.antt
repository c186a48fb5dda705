-- Constants: expressions without a cell and without a component, that are evaluated while the tree is unfolded.
-- Manual: expressions; data types. What counts as a constant, and that a constant which faults is none: (own).
use Rattle.std.specs.Prelude.{Bool, None, Option, Some, if◌then◌else◌, int_le, int_lt, nat_abs, pos, true, ℕ, ℤ, ◌&&◌, ◌+ℤ◌}
use Rattle.occ_term.specs.Terms.{Expression}
use Rattle.occ_term.specs.Values.{Evaluated, Value, Fails, value_of}
use Rattle.occ_term.specs.Uses.{is_constant}
use Rattle.occ_check_meaning.specs.Scope.{keep}

abbrev pub without_fault : Evaluated ℤ → Option ℤ
without_fault (Value v) = Some v
without_fault (Fails fault) = None

-- The value of a constant that does not fault. No cell stands in it, so the store does not matter. The right operand of AND and
-- OR is evaluated only where the left one does not decide, but it must be a constant too.
abbrev pub constant : Expression → Option ℤ
constant e = if is_constant e then without_fault (value_of e (λ cell. pos 0)) else None

-- whether a subscript of this value, where it is constant, is within the size
abbrev pub is_within : Option ℤ → ℕ → Bool
is_within None size = true
is_within (Some v) size = int_le (pos 0) v && int_lt v (pos size)

-- (refusal: bad count) the size of an array, at least 1
abbrev pub a_size : ℤ → Option ℕ
a_size v = keep (int_le (pos 1) v) (nat_abs v)

-- (refusal: bad count) the count of a replicated PAR: none is negative, and the last index is an INT
abbrev pub a_count : ℤ → ℤ → Option ℕ
a_count base count = keep (int_le (pos 0) count && int_le (base +ℤ count) (pos 2147483648)) (nat_abs count)
