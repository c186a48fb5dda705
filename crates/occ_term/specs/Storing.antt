-- Evaluation that sets cells: storing, declarations, replicators.
-- Manual: primitive processes (assignment, input); variables and values. That what was set before a fault stays set is (own).
use Rattle.std.specs.Prelude.{List, [], if◌then◌else◌, int_le, length, nat_abs, nat_le, pos, replicate, take, ℕ, ℤ, ◌&&◌, ◌+ℤ◌, ◌+◌, ◌∷◌}
use Rattle.occ_term.specs.Messages.{Range, Count, Fault, fault, Part, One, Many, Counted}
use Rattle.occ_term.specs.Terms.{Item, Target, Into, IntoCounted, Declaration, Clearing, Naming, Replicator, replicator}
use Rattle.occ_term.specs.Values.{Store, store_with, Evaluated, Value, Fails, after, checked, Span, first_of, count_of, value_of, span_of, part_of, parts_of}

-- What was set before a fault stays set.
pub data Outcome (X : Type 0) : Type 0 where
  Gives : (result : X) (store : Store) → Outcome X
  Faults : (fault : Fault) (store : Store) → Outcome X

abbrev pub then_in : {X Y : Type 0} → Outcome X → (X → Store → Outcome Y) → Outcome Y
then_in (Gives x s) f = f x s
then_in (Faults e s) f = Faults e s

-- an evaluation that sets nothing
abbrev pub in_store : {X : Type 0} → Evaluated X → Store → Outcome X
in_store (Value x) s = Gives x s
in_store (Fails e) s = Faults e s

-- no result but the store
pub data Nothing : Type 0 where
  nothing : Nothing

-- ---- storing (manual: primitive processes)

-- values into cells in a row
abbrev pub store_from : ℕ → List ℤ → Store → Store
store_from first [] s = s
store_from first (v ∷ vs) s = store_from (first + 1) vs (store_with s first v)

-- no more than there are cells
abbrev pub store_in : Span → List ℤ → Store → Store
store_in cells vs s = store_from (first_of cells) (take (count_of cells) vs) s

abbrev pub values_in : Part → List ℤ
values_in (One type v) = v ∷ []
values_in (Many type vs) = vs
values_in (Counted type vs) = vs

-- a target whose subscripts are evaluated
pub data Spot : Type 0 where
  At : (cells : Span) → Spot
  AtCounted : (line : ℕ) (count array : Span) → Spot

abbrev pub spot_of : Target → Store → Evaluated Spot
spot_of (Into p) s = after (span_of p s) (λ at. Value (At at))
spot_of (IntoCounted line n a) s = after (span_of n s) (λ count. after (span_of a s) (λ array. Value (AtCounted line count array)))

abbrev pub spots_of : List Target → Store → Evaluated (List Spot)
spots_of [] s = Value []
spots_of (t ∷ ts) s = after (spot_of t s) (λ at. after (spots_of ts s) (λ ats. Value (at ∷ ats)))

-- A counted message that is longer than the array is a fault; components past the count keep their values (own).
abbrev pub store_part : Spot → Part → Store → Outcome Nothing
store_part (At cells) p s = Gives nothing (store_in cells (values_in p) s)
store_part (AtCounted line count array) p s =
    if nat_le (length (values_in p)) (count_of array)
    then Gives nothing (store_in array (values_in p) (store_in count (pos (length (values_in p)) ∷ []) s))
    else Faults (fault Range line) s

-- from left to right
abbrev pub store_parts : List Spot → List Part → Store → Outcome Nothing
store_parts [] ps s = Gives nothing s
store_parts (at ∷ ats) [] s = Gives nothing s
store_parts (at ∷ ats) (p ∷ ps) s = then_in (store_part at p s) (λ x s'. store_parts ats ps s')

-- the subscripts of all targets, then the stores
abbrev pub store_into : List Target → List Part → Store → Outcome Nothing
store_into targets ps s = then_in (in_store (spots_of targets s) s) (λ ats s'. store_parts ats ps s')

-- all right sides first
abbrev pub assigned : List Target → List Item → Store → Outcome Nothing
assigned targets values s = then_in (in_store (parts_of values s) s) (λ ps s'. store_into targets ps s')

-- ---- declarations (manual: scope; variables and values) and replicators (manual: combining processes)

-- a declared variable begins with 0 or FALSE in all its components (own)
abbrev pub declared : Declaration → Store → Outcome Nothing
declared (Clearing first count) s = Gives nothing (store_from first (replicate count (pos 0)) s)
declared (Naming first value) s = then_in (in_store (part_of value s) s) (λ p s'. Gives nothing (store_from first (values_in p) s'))

abbrev pub all_declared : List Declaration → Store → Outcome Nothing
all_declared [] s = Gives nothing s
all_declared (d ∷ ds) s = then_in (declared d s) (λ x s'. all_declared ds s')

-- the base, and how many values
pub data Indices : Type 0 where
  indices : (base : ℤ) (count : ℕ) → Indices

-- The base is evaluated first. A negative count, or a last index past the last INT, is a fault (own).
abbrev pub indices_of : Replicator → Store → Evaluated Indices
indices_of (replicator line index base count) s =
    after (value_of base s) (λ b. after (value_of count s) (λ n.
    checked (int_le (pos 0) n && int_le (b +ℤ n) (pos 2147483648)) (indices b (nat_abs n)) Count line))

abbrev pub index_of : Replicator → ℕ
index_of (replicator line index base count) = index
