-- Names and what they stand for. A scope is a list of pairs of a name and its binding, the innermost first, so an inner name
-- hides an outer one. What a PROC sees is the rest of the list behind its own pair, and so not itself.
-- Manual: scope; abbreviations; procedures. That a name means its place: (own).
use Rattle.std.specs.Prelude.{Bool, List, None, Option, Some, [], bytes_eq, cond, false, true, if◌then◌else◌, ℕ, ℤ, ◌∷◌}
use Rattle.occ_tree_grammar.specs.Many.{◌>>=◌}
use Rattle.occ_term.specs.declared.primitive.Primitive.{Primitive}
use Rattle.occ_term.specs.declared.protocol.Protocol.{Protocol}
use Rattle.occ_term.specs.Terms.{Subscripts, no_subscripts}

-- a value where the test holds
abbrev pub keep : {A : Type 0} → Bool → A → Option A
keep test x = if test then Some x else None

-- what each of a list gives, in order; nothing where one gives nothing
unfoldable pub each_of : {A B : Type 0} → (A → Option B) → List A → Option (List B)
each_of f [] = Some []
each_of f (a ∷ rest) = do
  b ← f a
  bs ← each_of f rest
  Some (b ∷ bs)

-- ---- what a name stands for

-- Cells or channels one after another: an array, or a part of one under subscripts that are evaluated already. The sizes are those
-- of the whole array; those that are left are the stretch's own, none for a single cell or channel.
pub record Stretch : Type 0 where
  pub first : ℕ
  pub sizes : List ℕ
  pub subscripts : Subscripts
  pub left : List ℕ

-- an array from its first on, or a single one
abbrev pub stretch_from : ℕ → List ℕ → Stretch
stretch_from first sizes = record { first = first; sizes = sizes; subscripts = no_subscripts; left = sizes }

-- A variable may be assigned to. A named value, a VAL formal and an index may not.
pub data Access : Type 0 where
  assignable : Access
  kept : Access

-- What a channel carries: its protocol, with the number of its declaration where it is named. A named protocol is only itself.
pub record Carried : Type 0 where
  pub declared : Option ℕ
  pub protocol : Protocol

-- what a name stands for, but for a PROC's
pub data Known : Type 0 where
  a_value : Primitive → ℤ → Known
  a_string : List ℤ → Known
  some_cells : Access → Primitive → Stretch → Known
  some_channels : Carried → Stretch → Known
  a_protocol : Carried → Known

-- what a name stands for, where M is what is known of a PROC
pub data Binding (M : Type 0) : Type 0 where
  known : Known → Binding M
  proc : M → Binding M

-- ---- scopes

abbrev pub Name : Type 0
Name = List ℕ

abbrev pub Scope : Type 0 → Type 0
Scope M = List (Name × Binding M)

-- the innermost pair with this name
unfoldable pub find : {M : Type 0} → Scope M → Name → Option (Binding M)
find [] x = None
find (b ∷ sc) x = cond (bytes_eq x b.0) (Some b.1) (find sc x)

abbrev pub as_known : {M : Type 0} → Binding M → Option Known
as_known (known k) = Some k
as_known (proc m) = None

abbrev pub as_proc : {M : Type 0} → Binding M → Option M
as_proc (known k) = None
as_proc (proc m) = Some m

-- how names are looked up where no PROC is wanted
abbrev pub Names : Type 0
Names = Name → Option Known

abbrev pub names_of : {M : Type 0} → Scope M → Names
names_of sc x = find sc x >>= as_known

-- what names of one declaration, or formals, stand for
abbrev pub Pairs : Type 0
Pairs = List (Name × Known)

unfoldable pub within : {M : Type 0} → Pairs → Scope M → Scope M
within [] sc = sc
within (b ∷ bs) sc = (b.0, known b.1) ∷ within bs sc

-- whether a name stands in a list
abbrev pub is_among : Name → List Name → Bool
is_among x [] = false
is_among x (y ∷ ys) = cond (bytes_eq x y) true (is_among x ys)

-- each name once
abbrev pub are_once : List Name → Bool
are_once [] = true
are_once (x ∷ xs) = cond (is_among x xs) false (are_once xs)

-- (refusal: a name twice) names of one declaration, formal list or tag list
abbrev pub once : List Name → Option (List Name)
once xs = keep (are_once xs) xs
