-- What of a list of targets is compared: the parts under constant subscripts, and the variables that subscripts name.
-- Manual: nothing; what stands twice in a list is (own).
use Rattle.std.specs.Borrow.{Bor}
use Rattle.std.specs.List.Sorted.{IsNonDecreasingBy}
use Rattle.std.specs.Prelude.{Bool, List, [], cond, false, map, nat_eq, nat_lt, ℕ, ◌+◌, ◌||◌, ◌∷◌}
use Rattle.occ_term.specs.Messages.{product}
use Rattle.occ_term.specs.Terms as T
use Rattle.occ_term.specs.Terms.{Expression, Constant, Cell, Component, Letter, Binary, Unary, And, Or, Conversion, Place, place, Subscripts, no_subscripts, then_subscript}
use Rattle.occ_term.specs.Uses.{numbers_in, part_named}
use Rattle.occ_term.specs.Values.{Span, span}
use Rattle.occ_term.specs.View.{place_of}
use Rattle.occ_term.specs.declared.expression.Place.{Place as PlaceTree}
use Rattle.occ_check_meaning.specs.Scope.{Stretch}
use Rattle.occ_check_meaning.specs.Items.{are_constant, has_of, is_named_by, part_span, variable_span}
use Rattle.occ_check_lines.specs.Spans.{span_of}
use Rattle.occ_check_lines.specs.declared.naming.Others.{Others}

-- the stretch that a place is of, without the sizes that are left
abbrev pub stretch_at : T.Place → Stretch
stretch_at (T.place line first sizes subs) = record { first = first; sizes = sizes; subscripts = subs; left = [] }

abbrev pub stretches_at : List T.Target → List Stretch
stretches_at [] = []
stretches_at (T.Into p ∷ ts) = stretch_at p ∷ stretches_at ts
stretches_at (T.IntoCounted line n a ∷ ts) = stretch_at n ∷ stretch_at a ∷ stretches_at ts

abbrev pub stretches_of : List (Bor PlaceTree) → List Stretch
stretches_of ps = map (λ p. stretch_at (place_of p.now)) ps

-- the parts of the stretches with constant subscripts
abbrev pub fixed_spans : List Stretch → List Span
fixed_spans [] = []
fixed_spans (r ∷ rs) = cond (are_constant r.subscripts) (part_span r ∷ fixed_spans rs) (fixed_spans rs)

-- a subscript of the one stretch names the variable of the other, for the first stretch and a later one
abbrev pub is_named_with : Stretch → List Stretch → Bool
is_named_with r [] = false
is_named_with r (q ∷ qs) = (is_named_by r q || is_named_by q r) || is_named_with r qs

-- .. for two of the stretches
abbrev pub is_one_named : List Stretch → Bool
is_one_named [] = false
is_one_named (r ∷ rs) = is_named_with r rs || is_one_named rs

-- whether two spans have a cell in common
abbrev pub shares : Span → Span → Bool
shares a b = has_of (numbers_in a) b

-- ---- where variables begin and end: both 0 for one without a cell

abbrev pub variable_spans : List Stretch → List Span
variable_spans rs = map variable_span rs

abbrev pub begins_at : Span → ℕ
begins_at (span first count) = cond (nat_eq count 0) 0 first

abbrev pub ends_at : Span → ℕ
ends_at (span first count) = cond (nat_eq count 0) 0 (first + count)

-- how many numbers are below a limit
abbrev pub below : ℕ → List ℕ → ℕ
below limit [] = 0
below limit (n ∷ ns) = cond (nat_lt n limit) 1 0 + below limit ns

-- Some cells meet one variable more than their own: of those that begin before the last cell, fewer end up to the first.
abbrev pub meets_another : List ℕ → List ℕ → Span → Span → Bool
meets_another firsts ends own (span first count) =
    cond (nat_eq count 0) false (nat_lt (cond (shares (span first count) own) 1 0 + below (first + 1) ends) (below (first + count) firsts))

abbrev pub met_by : Others → Span → Bool
met_by o cells = meets_another o.firsts.now o.ends.now (span_of o.own) cells

-- both lists rise
pub record AreSorted (o : Others) : Type 0 where
  pub firsts : IsNonDecreasingBy (λ n. n) o.firsts.now
  pub ends : IsNonDecreasingBy (λ n. n) o.ends.now

-- ---- whether cells are read that pass a test

abbrev mutual
  pub reads_some : (Span → Bool) → Expression → Bool
  reads_some test (Constant v) = false
  reads_some test (Cell c) = test (span c 1)
  reads_some test (Component p) = some_in_place test p
  reads_some test (Letter line text e) = reads_some test e
  reads_some test (Binary op type line a b) = reads_some test a || reads_some test b
  reads_some test (Unary op type line a) = reads_some test a
  reads_some test (And a b) = reads_some test a || reads_some test b
  reads_some test (Or a b) = reads_some test a || reads_some test b
  reads_some test (Conversion to line a) = reads_some test a

  -- by a place that is named, or by its subscripts
  pub some_in_place : (Span → Bool) → Place → Bool
  some_in_place test (place line first sizes subs) = test (part_named subs first sizes (span first (product sizes))) || some_in_subscripts test subs

  pub some_in_subscripts : (Span → Bool) → Subscripts → Bool
  some_in_subscripts test no_subscripts = false
  some_in_subscripts test (then_subscript e es) = reads_some test e || some_in_subscripts test es

-- a subscript of the stretch names another variable than its own
abbrev pub names_another : List ℕ → List ℕ → Stretch → Bool
names_another firsts ends r = some_in_subscripts (meets_another firsts ends (variable_span r)) r.subscripts

abbrev pub one_names_another : List ℕ → List ℕ → List Stretch → Bool
one_names_another firsts ends [] = false
one_names_another firsts ends (r ∷ rs) = names_another firsts ends r || one_names_another firsts ends rs
